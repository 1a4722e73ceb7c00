use Rattle.mpc_bench.proofs.DigestLemmas.{low_read, number_found}
use Rattle.mpc_bench.proofs.repeats.number_digit.Goals as goal

pub returns : goal.returns
returns c = number_found c.args.number.now c.low.result (low_read c.num.result c.args.number.now.numer c.low.result c.low.ensures c.num.ensures.value c.num.ensures.fits.0)
