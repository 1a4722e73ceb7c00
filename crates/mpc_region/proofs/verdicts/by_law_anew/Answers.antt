use Rattle.std.proofs.Common.{IfOk, subst}
use Rattle.mpc_rows.specs.Verdicts.{IsRight}
use Rattle.mpc_region.specs.LawEnd.{IsLawOfSet, IsLawEnd}
use Rattle.mpc_region.proofs.verdicts.by_law_anew.Goals as goal

pub returns-clause-right : goal.returns-clause-right
returns-clause-right c =
    let found : IsLawOfSet c.args.qp.now c.args.set c.in-Found.law = subst (IsLawEnd c.args.qp.now c.args.set) c.in-Found.is c.in_ok-law.ensures.end in
    subst (λ s. IfOk c.by_law.result (IsRight c.args.qp.now s)) found.of_set c.by_law.ensures.right
