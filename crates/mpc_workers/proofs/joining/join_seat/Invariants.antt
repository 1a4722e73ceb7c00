use Rattle.std.proofs.Common.{◌≡◌, ◌<◌, ◌≤◌, ℕ, length, vec_len, get_or}
use Rattle.mpc_workers.specs.declared.seats.Post.{Post}
use Rattle.mpc_workers.proofs.Programs.{AtEachPlace}
use Rattle.mpc_workers.proofs.Joins.{IsPartly}
use Rattle.mpc_workers.proofs.joining.join_seat.Given as goal

abbrev pub invariant-loop-post : goal.invariant-loop-post
invariant-loop-post l = record {
  within : vec_len l.posts ≤ length l.programs;
  same : (j : ℕ) (p : Post) → j < vec_len l.posts → get_or l.posts.items j p ≡ get_or l.fn.seat.posts.items j p;
  firsts : AtEachPlace (IsPartly l.workers l.fn.seat.worker (vec_len l.posts)) l.turns l.programs l.firsts;
}

abbrev pub decreases-loop-post : goal.decreases-loop-post
decreases-loop-post l = vec_len l.posts
