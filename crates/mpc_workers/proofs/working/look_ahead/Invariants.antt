use Rattle.std.proofs.Common.{◌≡◌, false, IfSome}
use Rattle.mpc_rows.specs.declared.programs.Qp.{Qp}
use Rattle.mpc_workers.specs.Posts.{IsPost}
use Rattle.mpc_workers.proofs.working.look_ahead.Given as goal

abbrev pub invariant-loop : goal.invariant-loop
invariant-loop g l = record {
  program : l.worker.program ≡ l.initial.worker.program;
  examiner : IfSome l.worker.examiner (λ (q : Qp). q ≡ l.fn.qp);
  post : IsPost l.number l.fn.turn l.fn.qp l.post;
  working : l.post.saw_end ≡ false;
}
