use Rattle.std.proofs.Common.{sym, subst₂}
use Rattle.mpc_rows.specs.Verdicts.{IsRight}
use Rattle.mpc_region.proofs.examiner.Examiner.examine.Goals as goal

pub returns-clause-right : goal.returns-clause-right
returns-clause-right c = subst₂ (λ qp verdict. IsRight qp c.args.set verdict) c.self.view_is (sym c.of.ensures.verdict) c.in_ok-verdict.ensures.right
