use Rattle.std.proofs.Common.{◌≡◌, IfSome}
use Rattle.mpc_rows.specs.declared.programs.Qp.{Qp}
use Rattle.mpc_workers.specs.Posts.{IsBusy}
use Rattle.mpc_workers.proofs.working.finish_sets.Given as goal

abbrev pub invariant-loop : goal.invariant-loop
invariant-loop g l = record {
  program : l.worker.program ≡ l.initial.worker.program;
  examiner : IfSome l.worker.examiner (λ (q : Qp). q ≡ l.fn.qp);
  post : IsBusy l.number l.fn.turn l.fn.qp l.ticket l.post;
}
