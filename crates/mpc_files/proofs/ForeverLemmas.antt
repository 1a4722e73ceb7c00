-- An accepted and safe controller replies rightly forever.
use Rattle.std.proofs.Common.{List, refl, sym, subst}
use Rattle.mpc_exact.specs.Rational.{ℚ}
use Rattle.mpc_plant.specs.Trajectory.{move_at}
use Rattle.mpc_plant.specs.Reply.{Reply, move, infeasible, IsRight, OneRightReply}
use Rattle.mpc_controller.specs.Parts.{Parts}
use Rattle.mpc_controller.specs.Bounds.{IsController}
use Rattle.mpc_controller.specs.Replies.{RepliesAt}
use Rattle.mpc_controller.specs.ReplyTheorems.{RepliesEverywhere}
use Rattle.mpc_check.specs.Acceptance.{Accepts, AcceptedIsRight}
use Rattle.mpc_recur.specs.Successors.{HasMove, IsSafe}
use Rattle.mpc_recur.specs.ClosedLoop.{GoesOn, GoesOnForever, SafeGoesOn}
use Rattle.mpc_files.specs.RightForever.{HasAdmissible, RepliesBest, IsRightForever, StaysRight}

module _ (everywhere : RepliesEverywhere) (right : AcceptedIsRight) (one_right : OneRightReply) (goes_on : SafeGoesOn) (parts : Parts) (is : IsController parts.plant parts.laws parts.tree) (accepts : Accepts parts) (safe : IsSafe parts) where
  move_by : (t : List ℚ) → HasAdmissible parts t → (reply : Reply) → RepliesAt parts t reply → IsRight parts.plant t reply → HasMove parts t
  move_by t a (move u) replies ok = record { in_box = a.in_box; u = u; replies = replies }
  move_by t a infeasible replies none = absurd (none a.sequence a.is_sequence a.admissible)

  has_move : (t : List ℚ) → HasAdmissible parts t → HasMove parts t
  has_move t a = let r = everywhere parts is t in move_by t a r.0 r.1 (right parts t r.0 is accepts a.in_box r.1)

  best_there : (x : List ℚ) → GoesOn parts x → RepliesBest parts x
  best_there x g =
      let ok : IsRight parts.plant g.point (move g.has_move.u) = right parts g.point (move g.has_move.u) is accepts g.has_move.in_box g.has_move.replies in
      record {
        point = g.point;
        state = record { in_box = g.has_move.in_box; is_state = g.is_state };
        best = ok.0;
        is_best = ok.1;
        replies = subst (λ u. RepliesAt parts g.point (move u)) (sym ok.2) g.has_move.replies;
        only = λ reply r. one_right parts.plant g.point reply (move (move_at ok.0 0)) (right parts g.point reply is accepts g.has_move.in_box r) (ok.0, ok.1, refl);
      }

  right_forever : (start : List ℚ) → GoesOnForever parts start → IsRightForever parts start
  right_forever start f = record { comes = f.comes; right = λ k x c. best_there x (f.goes_on k x c) }

  pub stays_right : StaysRight parts
  stays_right start a = right_forever start (goes_on parts is safe start (has_move start a))
