use Rattle.std.proofs.Common.{◌≡◌, ◌+◌, ◌≤◌, length, vec_len, take}
use Rattle.std.specs.Vec.{vec_capacity}
use Rattle.mpc_workers.specs.Posts.{AtEach, IsPost}
use Rattle.mpc_workers.proofs.Programs.{AtEachPlace}
use Rattle.mpc_workers.proofs.Splits.{IsSplit}
use Rattle.mpc_workers.proofs.seats.seat_of.Given as goal

abbrev pub invariant-loop-place : goal.invariant-loop-place
invariant-loop-place l = record {
  firsts : AtEachPlace (IsSplit l.before l.place) l.turns l.programs l.firsts;
  room : length l.turns ≤ vec_capacity l.posts;
  count : vec_len l.posts ≡ l.place;
  posts : AtEach (IsPost (l.before + 1)) (take l.place l.turns) (take l.place l.programs) l.posts.items;
}
