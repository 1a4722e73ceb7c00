use Rattle.std.proofs.Common.{◌∙◌, arith}
use Rattle.std.proofs.lemmas.Int.{ints}
use Rattle.mpc_frac.proofs.FracParts.{neg_from}
use Rattle.mpc_frac.proofs.Frac.neg.Goals as goal

pub returns : goal.returns
returns c = c.lowest.ensures ∙ neg_from c.args.self.now _ _ (let f = c.num.ensures.fits in rw c.num.ensures.value (omega (arith, ints))) c.below.ensures.value
