use Rattle.mpc_bordered.proofs.Formed.{formed_of, formed_divided}
use Rattle.mpc_bordered.proofs.entries.divided.Goals as goal

pub returns : goal.returns
returns c t k j p x =
    formed_divided t k j c.in-Some.entry c.in-Some-pivot.divisor c.in-Ok.quotient
    (formed_of t k k j c.args.number c.in-Some.entry c.in-Some.is x) (formed_of t k k k c.args.pivot c.in-Some-pivot.divisor c.in-Some-pivot.is p)
    c.in-Ok.ensures.value c.in-Ok.ensures.wide c.num-fits.ensures.fits
