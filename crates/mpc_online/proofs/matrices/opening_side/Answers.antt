use Rattle.std.proofs.Common.{◌∙◌, ap}
use Rattle.mpc_exact.specs.Rational.{neg_ℚ}
use Rattle.mpc_online.proofs.Filled.{entry_read}
use Rattle.mpc_online.proofs.matrices.opening_side.Goals as goal

pub returns : goal.returns
returns c = c.neg.ensures ∙ ap neg_ℚ (entry_read c.args.costs.now c.args.row c.index-costs-row.result c.requires c.index-costs-row.is)
