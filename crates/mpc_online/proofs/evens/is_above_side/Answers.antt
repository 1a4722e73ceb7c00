use Rattle.std.proofs.Common.{◌<ℤ◌, ◌*ℤ◌, sym, ◌∙◌, subst, subst₂}
use Rattle.std.specs.Int.{w128}
use Rattle.std.proofs.lemmas.Int.{to_z-of_z, to_z_pos}
use Rattle.mpc_exact.specs.Rational.{frac, neg_ℚ, ◌<ℚ◌}
use Rattle.mpc_frac.specs.Fits.{FitsSum}
use Rattle.mpc_online.proofs.WholeDots.{read_mag}
use Rattle.mpc_online.proofs.EvenRows.{side_fits, above_side}
use Rattle.mpc_online.proofs.WholeMoves.{den_of_small}
use Rattle.mpc_online.proofs.evens.is_above_side.Goals as goal

pub returns-clause-value : goal.returns-clause-value
returns-clause-value c xs ys ox oy h l =
    let is = c.dot_in_span-level.ensures.value xs ys ox oy h l in
    let above = above_side c.args.row.now c.args.numbers.now c.args.numerator c.requires.row c.requires.numbers c.requires.numerator c.dot_in_span-level.result in
    let left = read_mag c.dot_in_span-level.result c.dot_in_span-level.type_inv in
    let right =
    read_mag c.product.result c.product.type_inv ∙ c.product.ensures
    ∙ (λ i. to_z-of_z w128 c.args.numerator c.ranges.numerator i *ℤ to_z_pos w128 c.args.numbers.now.den (den_of_small c.args.numbers.now) i)
    in (
      λ t. subst (λ v. frac c.args.numerator c.args.row.now.den <ℚ v) (sym is) (above.1 (subst₂ (λ u v. u <ℤ v) right left (c.is_above_whole.ensures.0 t))),
      λ k. c.is_above_whole.ensures.1 (subst₂ (λ u v. u <ℤ v) (sym right) (sym left) (above.0 (subst (λ v. frac c.args.numerator c.args.row.now.den <ℚ v) is k))),
    )

pub returns-clause-fits : goal.returns-clause-fits
returns-clause-fits c xs ys ox oy h l = (
  c.dot_in_span-level.ensures.fits xs ys ox oy h l,
  subst (λ v. FitsSum v (neg_ℚ (frac c.args.numerator c.args.row.now.den))) (sym (c.dot_in_span-level.ensures.value xs ys ox oy h l))
      (side_fits c.args.row.now c.args.numbers.now c.args.numerator c.requires.row c.requires.numbers c.requires.numerator c.dot_in_span-level.result c.dot_in_span-level.ensures.size c.over_theorems.ensures),
)
