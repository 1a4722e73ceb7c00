-- The answers of a table at rest.
use Rattle.std.proofs.Common.{◌≡◌, ◌≢◌, ℕ, ◌<◌, List, [], ◌∷◌, ◌↔◌, Result, Err, sym, ◌∙◌, ap, subst}
use Rattle.mpc_exact.specs.Rational.{ℚ}
use Rattle.mpc_plant.specs.declared.lists.Coordinate.{Coordinate}
use Rattle.mpc_plant.specs.Reply.{Reply, infeasible}
use Rattle.mpc_plant.specs.Trajectory.{IsWithin, point_of}
use Rattle.mpc_rows.specs.ActiveSets.{IsInBox}
use Rattle.mpc_condense.specs.Condensed.{counts_of}
use Rattle.mpc_controller.specs.Parts.{Parts}
use Rattle.mpc_controller.specs.Replies.{at_state, IsAnswerTo}
use Rattle.mpc_check.specs.Acceptance.{Accepts, AcceptedIsRight}
use Rattle.mpc_synthesis.specs.RightReplies.{GridIsInBox}
use Rattle.mpc_block.specs.declared.layouts.LayoutError.{LayoutError}
use Rattle.mpc_block.specs.declared.layouts.LayoutError.TheVariants.{NoRoom}
use Rattle.mpc_block.specs.declared.replies.Move.{Move}
use Rattle.mpc_block.specs.BlockReplies.{IsMovesReply, IsNoMoveReply, Suits}
use Rattle.mpc_status.specs.declared.status.Status.{Status}
use Rattle.mpc_status.specs.declared.status.Status.TheVariants.{Done, NoMemory}
use Rattle.mpc_status.specs.StatusText.{code_of}
use Rattle.mpc_cli.specs.declared.commands.FileCommand.{FileCommand}
use Rattle.mpc_c.specs.Findings.{IsRefusal}
use Rattle.mpc_c.specs.Tables.{command_of, IsRefusedWith, IsRightAt, HasMoves, HasNoMoves}
use Rattle.mpc_c.proofs.TextEnds.{codes}

-- ---- a file that is refused
pub not_done : (c : FileCommand) (file : List ℕ) (s : Status) → IsRefusal c file s → code_of s ≢ 0
not_done c file s h e = let is : s ≡ Done = (codes s).done e in (h (subst (λ q. q ≢ NoMemory) (sym is) (λ d. absurd cc))).1 is

pub refused_with : (file : List ℕ) (check code : ℕ) (s : Status) → IsRefusal (command_of check) file s → code ≡ code_of s → code ≢ 11 → IsRefusedWith file check code
refused_with file check code s h is other =
    let due = h (λ e. other (is ∙ ap code_of e)) in record { status = s; due = due.0; other = due.1; code_is = is }

pub no_room : {T : Type 0} (r : Result T LayoutError) (n size room : ℕ) → ((r ≡ Err (NoRoom size)) ↔ (room < size)) → ((m : ℕ) → r ≡ Err (NoRoom m) → m ≡ size) → r ≡ Err (NoRoom n) → room < size
no_room r n size room exact told is = exact.0 (is ∙ ap (λ m. Err (NoRoom m)) (told n is))

-- ---- a reply
within_grid : (grid : List Coordinate) (t : List ℚ) → IsInBox (counts_of grid) t → IsWithin grid t
within_grid [] [] h = h
within_grid [] (x ∷ t) h = absurd h
within_grid (axis ∷ grid) [] h = absurd h
within_grid (axis ∷ grid) (x ∷ t) h = (h.0, h.1, within_grid grid t h.2)

module _ (right : AcceptedIsRight) (grid : GridIsInBox) (words counts : List ℕ) (room : ℕ) (parts : Parts) (suits : Suits words counts room parts) where
  right_at : (reply : Reply) → IsAnswerTo parts counts (at_state reply) → Accepts parts → IsRightAt parts.plant counts reply
  right_at reply a accepts =
      let condensed = accepts.program.has_program.condensed in
      let in_box : IsInBox accepts.qp.counts (point_of counts) = grid parts.plant accepts.qp counts condensed suits.one_each a.0 in
      (a.0, right parts (point_of counts) reply suits.block.controller accepts (within_grid parts.plant.grid (point_of counts) (subst (λ l. IsInBox l (point_of counts)) condensed.counts_are in_box)) a.1)

  pub moved : (moves : List Move) (node law : ℕ) → IsMovesReply parts counts moves node law → HasMoves parts counts moves
  moved moves node law reply = record { node = node; law = law; reply = reply; right = right_at _ reply.answer }

  pub no_moves : (node : ℕ) → IsNoMoveReply parts counts node → HasNoMoves parts counts
  no_moves node reply = record { node = node; reply = reply; right = right_at infeasible reply.answer }
