use Rattle.std.proofs.Common.{List, ℕ, IfOk, subst}
use Rattle.mpc_rows.specs.declared.programs.Qp.{Qp}
use Rattle.mpc_rows.specs.JudgedSet.{JudgedSet}
use Rattle.mpc_rows.specs.Verdicts.{IsRight}
use Rattle.mpc_workers.proofs.working.Worker.examine.Goals as goal

pub returns-clause-right : goal.returns-clause-right
returns-clause-right c =
    subst (λ (q : Qp). IfOk c.examine-judged.result (λ (j : JudgedSet). IsRight q c.args.ticket.now.set j.verdict)) c.in_ok-examiner.ensures.examiner
    (subst (λ (s : List ℕ). IfOk c.examine-judged.result (λ (j : JudgedSet). IsRight c.in_ok-examiner.examiner s j.verdict)) c.set.ensures c.examine-judged.ensures.right)
