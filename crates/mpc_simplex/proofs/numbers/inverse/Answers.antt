use Rattle.std.proofs.Common.{◌≡◌, ◌<◌, ◌^◌, ◌∙◌, ap, pos, unsigned_abs, ℤ, to_z, of_z}
use Rattle.std.proofs.lemmas.Int.{fits_signed_from_abs, to_z-of_z}
use Rattle.std.specs.Int.{w128}
use Rattle.mpc_simplex.proofs.TurnedOver.{made_is, made_always}
use Rattle.mpc_simplex.proofs.numbers.inverse.Goals as goal
use Rattle.mpc_simplex.proofs.numbers.inverse.Goals.{After-new}

read_wide : (z : ℤ) → unsigned_abs z < 2 ^ 127 → to_z w128 (of_z w128 z) ≡ z
read_wide z h = to_z-of_z w128 z (fits_signed_from_abs w128 z h)

numer : (c : After-new) → to_z w128 (of_z w128 c.num.result) ≡ c.args.number.now.numer
numer c = ap (λ z. to_z w128 (of_z w128 z)) c.num.ensures.value ∙ read_wide c.args.number.now.numer c.num.ensures.fits.0

denom : (c : After-new) → to_z w128 (of_z w128 c.den.result) ≡ pos c.args.number.now.denom
denom c = ap (λ z. to_z w128 (of_z w128 z)) c.den.ensures.value ∙ read_wide (pos c.args.number.now.denom) c.den.ensures.fits.1

pub unreachable-requires : goal.unreachable-requires
unreachable-requires c =
    let d = (goal.at.unreachable-requires c).After-new in
    made_always c.args.number.now c.requires _ _ (numer d) (denom d) c.fit_theorems.ensures c.num.ensures.fits c.new.result c.new.ensures.zero c.new.ensures.wide c.in-Err.field-0 c.in-Err.is

pub returns : goal.returns
returns c = let d = (goal.at.returns c).After-new in c.in-Ok.ensures.value ∙ made_is c.args.number.now c.requires _ _ (numer d) (denom d)
