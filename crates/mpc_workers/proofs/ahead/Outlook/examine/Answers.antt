use Rattle.std.proofs.Common.{IfOk, All, sym, subst}
use Rattle.mpc_rows.specs.declared.programs.Qp.{Qp}
use Rattle.mpc_rows.specs.Candidates.{IsCandidate}
use Rattle.mpc_rows.specs.JudgedSet.{JudgedSet}
use Rattle.mpc_rows.specs.Verdicts.{IsRight}
use Rattle.mpc_workers.specs.Ahead.{AreKnown}
use Rattle.mpc_workers.proofs.ahead.Outlook.examine.Goals as goal

pub invariant_of-self : goal.invariant_of-self
invariant_of-self c = (c.recall.ensures.known c.self.inside.examiner c.self.invariant.0, c.self.invariant.1)

pub invariant_of-self-in-None : goal.invariant_of-self-in-None
invariant_of-self-in-None c =
    subst (λ (q : Qp). AreKnown q c.recall.new.known.items × All (IsCandidate q) c.self.inside.ahead.sets.items) (sym c.examine.ensures.program) (c.recall.ensures.known c.self.inside.examiner c.self.invariant.0, c.self.invariant.1)

pub returns-in-Some-clause-right : goal.returns-in-Some-clause-right
returns-in-Some-clause-right c = subst (λ (q : Qp). IsRight q c.args.set c.in-Some.judged.verdict) c.self.view_is (c.in-Some.ensures.right c.self.inside.examiner c.self.invariant.0)

pub returns-in-None-clause-right : goal.returns-in-None-clause-right
returns-in-None-clause-right c = subst (λ (q : Qp). IfOk c.examine.result (λ (j : JudgedSet). IsRight q c.args.set j.verdict)) c.self.view_is c.examine.ensures.right
