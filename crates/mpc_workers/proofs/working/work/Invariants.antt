use Rattle.mpc_workers.specs.Posts.{AtEach, IsAtProgram, IsPost}
use Rattle.mpc_workers.proofs.working.work.Given as goal

abbrev pub invariant-loop : goal.invariant-loop
invariant-loop g l = record {
  worker : IsAtProgram l.fn.pool.programs.now l.worker;
  posts : AtEach (IsPost l.number) l.fn.pool.turns.now l.fn.pool.programs.now l.posts;
}
