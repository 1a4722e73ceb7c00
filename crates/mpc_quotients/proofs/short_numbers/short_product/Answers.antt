use Rattle.std.proofs.Common.{◌≤◌, ◌^◌, unsigned_abs, sym, subst}
use Rattle.mpc_quotients.proofs.ShortNumbers.{product_is, product_small}
use Rattle.mpc_quotients.proofs.short_numbers.short_product.Goals as goal

pub returns-clause-value : goal.returns-clause-value
returns-clause-value c = product_is c.args.left c.args.right c.requires.x_small c.requires.y_small

pub returns-clause-small : goal.returns-clause-small
returns-clause-small c =
    subst (λ z. unsigned_abs z ≤ 2 ^ 60) (sym (product_is c.args.left c.args.right c.requires.x_small c.requires.y_small)) (product_small c.args.left c.args.right c.requires.x_small c.requires.y_small)
