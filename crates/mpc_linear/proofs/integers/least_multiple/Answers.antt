use Rattle.std.proofs.Common.{◌<◌, subst, sym, arith}
use Rattle.mpc_exact.specs.Gcd.{gcd-positive}
use Rattle.mpc_linear.proofs.WholeLemmas.{lcm_from, lcm_found}
use Rattle.mpc_linear.proofs.integers.least_multiple.Goals as goal

pub nonzero_div-part : goal.nonzero_div-part
nonzero_div-part c = subst (λ n. 0 < n) (sym c.greatest_common_divisor.ensures.value) (gcd-positive c.args.left c.args.right c.requires.b_positive)

pub returns-then-multiple-clause-value : goal.returns-then-multiple-clause-value
returns-then-multiple-clause-value c = lcm_found c.args.left c.args.right c.greatest_common_divisor.result c.in-Some.multiple c.greatest_common_divisor.ensures.value c.in-Some.ensures.1

pub returns-else-multiple-clause-value : goal.returns-else-multiple-clause-value
returns-else-multiple-clause-value c = omega (arith, lcm_from c.args.left c.args.right c.greatest_common_divisor.result c.greatest_common_divisor.ensures.value, c.in-Some.ensures.1, c.if-multiple.false)

pub returns-else-multiple-clause-small : goal.returns-else-multiple-clause-small
returns-else-multiple-clause-small c = omega (arith, lcm_from c.args.left c.args.right c.greatest_common_divisor.result c.greatest_common_divisor.ensures.value, c.in-Some.ensures.1, c.if-multiple.false)

pub returns-in-None-clause-value : goal.returns-in-None-clause-value
returns-in-None-clause-value c = omega (arith, lcm_from c.args.left c.args.right c.greatest_common_divisor.result c.greatest_common_divisor.ensures.value, c.in-None.ensures)

pub returns-in-None-clause-small : goal.returns-in-None-clause-small
returns-in-None-clause-small c = omega (arith, lcm_from c.args.left c.args.right c.greatest_common_divisor.result c.greatest_common_divisor.ensures.value, c.in-None.ensures)
