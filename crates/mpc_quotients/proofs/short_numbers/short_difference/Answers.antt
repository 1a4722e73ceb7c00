use Rattle.mpc_quotients.proofs.ShortNumbers.{difference_is}
use Rattle.mpc_quotients.proofs.short_numbers.short_difference.Goals as goal

pub returns : goal.returns
returns c =
    difference_is c.args.entry c.args.factor c.args.top c.signed.result c.short_product.result c.short_product-2.result c.args.pivot c.requires.v_small c.requires.k_small c.requires.x_small c.requires.q_small
    c.short_product.ensures.small c.short_product-2.ensures.small c.signed.ensures.value c.short_product.ensures.value c.short_product-2.ensures.value
