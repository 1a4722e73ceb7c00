use Rattle.std.proofs.Common.{IfOk, subst}
use Rattle.mpc_rows.specs.Verdicts.{IsRight}
use Rattle.mpc_region.specs.LawEnd.{IsLawOfSet, IsLawEnd}
use Rattle.mpc_region.proofs.verdicts.by_fractions.Goals as goal

pub returns-in-Found-clause-right : goal.returns-in-Found-clause-right
returns-in-Found-clause-right c =
    let found : IsLawOfSet c.args.qp.now c.args.set c.in-Found.law = subst (IsLawEnd c.args.qp.now c.args.set) c.in-Found.is c.in_ok-law_of.ensures.end in
    subst (λ s. IfOk c.by_reach.result (IsRight c.args.qp.now s)) found.of_set c.by_reach.ensures.right
