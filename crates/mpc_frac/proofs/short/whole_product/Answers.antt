use Rattle.std.proofs.Common.{◌∙◌, ap}
use Rattle.mpc_exact.specs.Rational.{frac}
use Rattle.mpc_frac.proofs.ShortParts.{product_read, whole_product_is, whole_product_fits}
use Rattle.mpc_frac.proofs.Binary.{gcd-one}
use Rattle.mpc_frac.proofs.short.whole_product.Goals as goal

pub lowest-requires-clause-coprime : goal.lowest-requires-clause-coprime
lowest-requires-clause-coprime c = gcd-one _

pub returns-clause-value : goal.returns-clause-value
returns-clause-value c =
    c.lowest.ensures ∙ ap (λ z. frac z 1) (product_read c.args.left c.args.right c.ranges.left.sfits c.ranges.right.sfits) ∙ whole_product_is c.args.left c.args.right

pub returns-clause-fits : goal.returns-clause-fits
returns-clause-fits c = whole_product_fits c.args.left c.args.right c.ranges.left.sfits c.ranges.right.sfits
