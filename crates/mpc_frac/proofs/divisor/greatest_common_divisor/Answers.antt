use Rattle.std.proofs.Common.{◌∙◌}
use Rattle.mpc_exact.specs.Gcd.{gcd_comm}
use Rattle.mpc_frac.proofs.Binary.{positive_gcd}
use Rattle.mpc_frac.proofs.divisor.greatest_common_divisor.Goals as goal

pub returns-then-right-le-SHORT-2-clause-positive : goal.returns-then-right-le-SHORT-2-clause-positive
returns-then-right-le-SHORT-2-clause-positive c some = positive_gcd _ _ _ c.reduced_divisor.ensures some

pub returns-then-left-le-SHORT-2-clause-value : goal.returns-then-left-le-SHORT-2-clause-value
returns-then-left-le-SHORT-2-clause-value c = c.reduced_divisor-then-left-le-SHORT-2.ensures ∙ gcd_comm c.args.right c.args.left

pub returns-then-left-le-SHORT-2-clause-positive : goal.returns-then-left-le-SHORT-2-clause-positive
returns-then-left-le-SHORT-2-clause-positive c some = positive_gcd _ _ _ (c.reduced_divisor-then-left-le-SHORT-2.ensures ∙ gcd_comm c.args.right c.args.left) some

pub returns-clause-positive : goal.returns-clause-positive
returns-clause-positive c some = positive_gcd _ _ _ c.wide_divisor.ensures some
