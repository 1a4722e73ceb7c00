use Rattle.std.proofs.Common.{◌∙◌, ap}
use Rattle.mpc_bench.specs.Digests.{low_of}
use Rattle.mpc_bench.proofs.DigestLemmas.{low_read, product_fitting, product_wide}
use Rattle.mpc_bench.proofs.repeats.product_digit.Goals as goal

pub returns-in-Ok : goal.returns-in-Ok
returns-in-Ok c =
    low_read c.num.result c.in-Ok.product.numer c.low.result c.low.ensures c.num.ensures.value c.num.ensures.fits.0
    ∙ ap (λ v. low_of v.numer) c.in-Ok.ensures.value ∙ product_fitting c.args.left.now c.args.right.now c.in-Ok.ensures.wide

pub returns-in-Err : goal.returns-in-Err
returns-in-Err c = product_wide c.args.left.now c.args.right.now c.in-Err.ensures.wide
