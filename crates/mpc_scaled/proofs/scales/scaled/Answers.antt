use Rattle.std.proofs.Common.{◌≡◌, ◌∙◌, ◌*ℤ◌, pos, rules, to_z, of_z, FitsSigned}
use Rattle.std.specs.Int.{w64}
use Rattle.mpc_scaled.proofs.Small.{back128, back64, both_back}
use Rattle.mpc_scaled.proofs.Small.{over_factor}
use Rattle.mpc_scaled.proofs.scales.scaled.Goals as goal

pub returns-then-unsigned_abs-2-clause-value : goal.returns-then-unsigned_abs-2-clause-value
returns-then-unsigned_abs-2-clause-value c =
    let f : FitsSigned w64 c.narrow.result = search rules in
    let g : FitsSigned w64 c.signed.result = search rules in
    let n : c.narrow.result ≡ c.args.number.now.numer = c.narrow.ensures ∙ back128 _ c.num-numerator.type_inv ∙ c.num-numerator.ensures.value in
    let z : to_z w64 (of_z w64 c.narrow-then-unsigned_abs-2.result) ≡ c.args.number.now.numer *ℤ pos c.in_ok-times.times =
    back64 _ c.narrow-then-unsigned_abs-2.type_inv ∙ c.narrow-then-unsigned_abs-2.ensures ∙ back128 _ c.product-whole.type_inv ∙ both_back _ _ _ f g c.product-whole.ensures
    ∙ (λ i. n i *ℤ c.signed.ensures.value i)
    in
    over_factor c.args.number.now c.in_ok-times.times c.args.scale _ c.requires.some c.in_ok-times.ensures.value z
