use Rattle.mpc_cover.proofs.OneVerdict.{one_right}
use Rattle.mpc_cover.proofs.one_verdict.Goals as goal

pub returns : goal.returns
returns c = one_right c.law_theorems.ensures
