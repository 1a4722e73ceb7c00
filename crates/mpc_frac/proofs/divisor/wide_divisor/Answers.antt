use Rattle.std.proofs.Common.{◌∙◌, ap, ◌*◌, ◌^◌, ◌%◌}
use Rattle.std.specs.Int.{w128}
use Rattle.mpc_frac.proofs.Binary.{part_odd, shifted_back}
use Rattle.mpc_frac.proofs.divisor.wide_divisor.Goals as goal

pub of_odd_wide-requires-clause-x_odd : goal.of_odd_wide-requires-clause-x_odd
of_odd_wide-requires-clause-x_odd c = part_odd w128 c.args.left c.requires.a_some c.ranges.left.fits

pub of_odd_wide-requires-clause-y_odd : goal.of_odd_wide-requires-clause-y_odd
of_odd_wide-requires-clause-y_odd c = part_odd w128 c.args.right c.requires.b_some c.ranges.right.fits

pub returns : goal.returns
returns c = ap (λ k. c.of_odd_wide.result * 2 ^ k % 2 ^ 128) c.min.ensures ∙ shifted_back w128 c.args.left c.args.right c.requires.a_some c.requires.b_some c.ranges.left.fits c.ranges.right.fits c.of_odd_wide.result c.of_odd_wide.ensures
