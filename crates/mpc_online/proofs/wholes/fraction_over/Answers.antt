use Rattle.std.proofs.Common.{◌∙◌}
use Rattle.mpc_online.proofs.WholeDots.{quotient_over}
use Rattle.mpc_online.proofs.wholes.fraction_over.Goals as goal

pub returns : goal.returns
returns c = c.in-Ok-new.ensures.value ∙ quotient_over c.args.numerator c.args.den c.requires.positive c.requires.small c.ranges.numerator.sfits
