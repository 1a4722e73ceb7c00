use Rattle.std.proofs.Common.{◌≡◌}
use Rattle.mpc_workers.specs.Posts.{AtEach, FindNothing, IsPost}
use Rattle.mpc_workers.proofs.Rounds.{HaveNoCalls}
use Rattle.mpc_workers.proofs.working.work_at_next.Given as goal

abbrev pub invariant-loop-steps : goal.invariant-loop-steps
invariant-loop-steps g l = record {
  worker : l.worker ≡ l.initial.worker;
  posts : AtEach (IsPost l.number) l.fn.pool.turns.now l.fn.pool.programs.now l.posts;
  nothing : FindNothing l.fn.pool.programs.now l.posts l.from l.steps;
  no_calls : HaveNoCalls l.initial.posts l.posts;
}
