use Rattle.std.proofs.Common.{◌*◌, ◌∙◌, ap, arith}
use Rattle.mpc_wholes.proofs.WholeDots.{multiple_of_first, some_multiple}
use Rattle.mpc_wholes.proofs.denominators.common_multiple.Goals as goal

pub returns-clause-of_a : goal.returns-clause-of_a
returns-clause-of_a c = multiple_of_first c.args.left c.args.right c.greatest_common_divisor.result c.in_ok-multiple.multiple c.greatest_common_divisor.ensures.value (c.in_ok-multiple.ensures.1 ∙ ap (λ n. n * c.args.right) c.part.ensures)

pub returns-clause-small : goal.returns-clause-small
returns-clause-small c = record {
  some = some_multiple c.args.left c.args.right c.greatest_common_divisor.result c.in_ok-multiple.multiple c.requires.a.some c.requires.b_positive c.greatest_common_divisor.ensures.value (c.in_ok-multiple.ensures.1 ∙ ap (λ n. n * c.args.right) c.part.ensures);
  small = omega (arith, c.if-multiple-gt-MOST.false);
}
