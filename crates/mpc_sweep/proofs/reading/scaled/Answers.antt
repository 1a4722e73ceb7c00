use Rattle.std.proofs.Common.{◌≡◌, ◌∙◌, ◌+ℤ◌, ◌*ℤ◌, pos, unsigned_abs, sym, ap, to_z, of_z}
use Rattle.std.specs.Int.{w64, w128}
use Rattle.std.proofs.lemmas.Int.{to_z-of_z}
use Rattle.mpc_sweep.proofs.FirstTable.{if_some, over_scale}
use Rattle.mpc_sweep.proofs.reading.scaled.Goals as goal

pub returns-clause-value : goal.returns-clause-value
returns-clause-value c =
    let x = c.args.number.now in
    let n : to_z w64 (of_z w64 c.narrow.result) ≡ x.numer =
    to_z-of_z w64 c.narrow.result (record { sfits = c.narrow.type_inv }) ∙ c.narrow.ensures ∙ to_z-of_z w128 c.num-numerator.result (record { sfits = c.num-numerator.type_inv }) ∙ c.num-numerator.ensures.value
    in
    let d : c.of-by.result.den ≡ x.denom =
    c.of-by.ensures ∙ c.unsigned_abs-den.ensures.value ∙ ap unsigned_abs (to_z-of_z w128 c.den.result (record { sfits = c.den.type_inv }) ∙ c.den.ensures.value)
    in
    if_some c.changed.result _ _ c.changed.ensures.value
    (λ z e. over_scale x c.args.scale z c.requires.scale_some (ap (λ u. z *ℤ pos u) (sym d) ∙ e ∙ ap (λ u. (u *ℤ pos c.args.scale) +ℤ pos 0) n))
