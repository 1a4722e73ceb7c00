use Rattle.std.proofs.Common.{arith}
use Rattle.mpc_block.proofs.FormLemmas.{lcm_from}
use Rattle.mpc_block.proofs.forms.least_multiple.Goals as goal

pub overflow_mul-result : goal.overflow_mul-result
overflow_mul-result c = omega (arith, lcm_from c.args.left c.args.right c.greatest_common_divisor.result c.greatest_common_divisor.ensures.value, c.requires.small)

pub returns : goal.returns
returns c = lcm_from c.args.left c.args.right c.greatest_common_divisor.result c.greatest_common_divisor.ensures.value
