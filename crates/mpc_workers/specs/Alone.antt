-- What one worker alone makes of a program.
use Rattle.std.specs.Prelude.{◌≡◌, ℕ, ◌⊎◌, List, [], ◌∷◌, false, Contains}
use Rattle.mpc_rows.specs.declared.programs.Qp.{Qp}
use Rattle.mpc_rows.specs.declared.verdicts.Verdict.{Verdict}
use Rattle.mpc_rows.specs.Verdicts.{IsRight}
use Rattle.mpc_claim.specs.declared.events.Event.{Event}
use Rattle.mpc_claim.specs.declared.events.EventKind.TheVariants.{Claim, Done}
use Rattle.mpc_claim.specs.declared.events.Tag.{Tag}
use Rattle.mpc_claim.specs.declared.events.Phase.TheVariants.{Finished, Stopped}
use Rattle.mpc_claim.specs.declared.tickets.Ticket.{Ticket}
use Rattle.mpc_claim.specs.Board.{Board, event}
use Rattle.mpc_claim.specs.Answers.{delivered}
use Rattle.mpc_claim.specs.History.{claimed_sets, ended_sets, has_drop, IsLegal, IsFinished, EndsWide}
use Rattle.mpc_workers.specs.Holding.{HoldOneSet}

-- the first worker claims a set and delivers it at once
pub record IsTurn (claim done : Event) : Type 0 where
  pub set : List ℕ
  pub tag : Tag
  pub claim_is : claim ≡ event 1 set Claim
  pub done_is : done ≡ event 1 set (Done tag)

-- turns of the first worker, one after the other
abbrev pub AreTurns : List Event → Type 0
AreTurns [] = Unit {0}
AreTurns (claim ∷ []) = ⊥
AreTurns (claim ∷ done ∷ rest) = IsTurn claim done × AreTurns rest

-- the registry of this program has come to its end, by the turns of one worker: all candidates are settled, or the level ended with a wide
-- verdict. No claimed set is left open, and none was given up.
pub record IsDoneAlone (qp : Qp) (board : Board) : Type 0 where
  pub program : board.program ≡ qp
  pub legal : IsLegal qp board.history
  pub ended : ((board.phase ≡ Finished) × IsFinished qp board.history) ⊎ ((board.phase ≡ Stopped) × EndsWide qp board.history)
  pub turns : AreTurns board.history
  pub one_each : HoldOneSet board.history
  pub none_open : (s : List ℕ) → Contains (claimed_sets board.history) s → Contains (ended_sets board.history) s
  pub no_drop : has_drop board.history ≡ false

-- the ticket's set is delivered with a right verdict
pub record Delivers (old : Board) (ticket : Ticket) (new : Board) : Type 0 where
  pub verdict : Verdict
  pub right : IsRight old.program ticket.set verdict
  pub new_is : new ≡ delivered old ticket verdict
