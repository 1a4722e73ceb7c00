use Rattle.std.proofs.Common.{◌≡◌, ◌+◌, ◌<◌, ℕ, length, vec_len, take, get_or}
use Rattle.mpc_rows.specs.declared.programs.Qp.{Qp}
use Rattle.mpc_claim.specs.Board.{Board}
use Rattle.mpc_workers.specs.Seats.{IsDone}
use Rattle.mpc_workers.specs.Posts.{AtEach}
use Rattle.mpc_workers.specs.Joined.{IsJoining}
use Rattle.mpc_workers.proofs.joining.close_all.Given as goal

abbrev pub invariant-loop-turn : goal.invariant-loop-turn
invariant-loop-turn l = record {
  firsts : AtEach (IsJoining l.workers 0) l.turns.items (take (vec_len l.turns) l.programs) l.firsts.items;
  count : vec_len l.turns + vec_len l.registries ≡ length l.programs;
  done : (k : ℕ) (q : Qp) (r : Board) → k < vec_len l.registries → IsDone (get_or l.programs (vec_len l.turns + k) q) l.workers (get_or l.registries.items k r);
}

abbrev pub decreases-loop-turn : goal.decreases-loop-turn
decreases-loop-turn l = vec_len l.turns
