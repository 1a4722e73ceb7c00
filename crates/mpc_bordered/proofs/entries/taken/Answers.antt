use Rattle.std.proofs.Common.{refl}
use Rattle.mpc_bordered.proofs.Formed.{formed_of, formed_still, formed_taken}
use Rattle.mpc_bordered.proofs.entries.taken.Goals as goal

pub returns-then-is_zero : goal.returns-then-is_zero
returns-then-is_zero c t k i j apart f q x =
    formed_still t k i j c.in-Some.times apart (c.if-is_zero.ensures.value.0 refl) (formed_of t k i k c.args.factor c.in-Some.times c.in-Some.is f) c.args.number x

pub returns : goal.returns
returns c t k i j apart f q x =
    formed_taken t k i j c.in-Some-number.entry c.in-Some.times c.in-Some-quotient.unit c.in-Ok.rest apart
    (formed_of t k i j c.args.number c.in-Some-number.entry c.in-Some-number.is x) (formed_of t k i k c.args.factor c.in-Some.times c.in-Some.is f)
    (formed_of t _ k j c.args.quotient.now c.in-Some-quotient.unit c.in-Some-quotient.is q)
    c.in-Ok.ensures.value c.in-Ok.ensures.wide c.num-fits.ensures.fits
