use Rattle.std.proofs.Common.{◌≡◌, ◌*◌, ◌^◌, ◌<◌, ◌<ℤ◌, pos, to_z, of_z, ◌*ℤ◌, unsigned_abs, sym, ◌∙◌, subst, subst₂}
use Rattle.std.specs.Int.{w128}
use Rattle.mpc_exact.specs.Rational.{neg_ℚ, ◌<ℚ◌}
use Rattle.mpc_frac.specs.Fits.{FitsSum}
use Rattle.mpc_online.proofs.WholeDots.{read_mag, read_den, left_small, right_small, above_is, difference_fits}
use Rattle.mpc_online.proofs.wholes.is_above.Goals as goal
use Rattle.mpc_online.proofs.wholes.is_above.Goals.{After-den, After-is_above_whole}

left_is : (c : After-den) → to_z w128 (of_z w128 c.dot_of_numerators-level.result) *ℤ to_z w128 (of_z w128 c.den.result) ≡ c.dot_of_numerators-level.result *ℤ pos c.args.side.now.denom
left_is c = λ i. read_mag c.dot_of_numerators-level.result c.dot_of_numerators-level.type_inv i *ℤ (read_mag c.den.result c.den.type_inv ∙ c.den.ensures.value) i

pub product-left-requires : goal.product-left-requires
product-left-requires c =
    subst (λ z. unsigned_abs z < 2 ^ 127) (sym (left_is (goal.at.product-left-requires c).After-den))
    (left_small c.args.row.now c.args.numbers.now c.size_of.result (c.is_small.ensures c.if-not-is_small.false) c.args.side.now c.size_of.ensures.numerator c.size_of.ensures.denominator c.dot_of_numerators-level.result c.dot_of_numerators-level.ensures.size)

pub product-right-requires : goal.product-right-requires
product-right-requires c =
    subst (λ z. unsigned_abs z < 2 ^ 127)
    (sym (λ i. (read_mag c.num.result c.num.type_inv ∙ c.num.ensures.value) i
    *ℤ read_den c.args.row.now c.args.numbers.now c.size_of.result (c.is_small.ensures c.if-not-is_small.false) c.args.side.now c.size_of.ensures.numerator c.size_of.ensures.denominator c.dot_of_numerators-level.result c.dot_of_numerators-level.ensures.size i))
    (right_small c.args.row.now c.args.numbers.now c.size_of.result (c.is_small.ensures c.if-not-is_small.false) c.args.side.now c.size_of.ensures.numerator c.size_of.ensures.denominator c.dot_of_numerators-level.result c.dot_of_numerators-level.ensures.size)

left_read : (c : After-is_above_whole) → to_z w128 (of_z w128 c.product-left.result) ≡ c.dot_of_numerators-level.result *ℤ pos c.args.side.now.denom
left_read c =
    read_mag c.product-left.result c.product-left.type_inv ∙ c.product-left.ensures
    ∙ (λ i. read_mag c.dot_of_numerators-level.result c.dot_of_numerators-level.type_inv i *ℤ (read_mag c.den.result c.den.type_inv ∙ c.den.ensures.value) i)

right_read : (c : After-is_above_whole) → to_z w128 (of_z w128 c.product-right.result) ≡ c.args.side.now.numer *ℤ pos (c.args.row.now.den * c.args.numbers.now.den)
right_read c =
    read_mag c.product-right.result c.product-right.type_inv ∙ c.product-right.ensures
    ∙ (λ i. (read_mag c.num.result c.num.type_inv ∙ c.num.ensures.value) i
    *ℤ read_den c.args.row.now c.args.numbers.now c.size_of.result (c.is_small.ensures c.if-not-is_small.false) c.args.side.now c.size_of.ensures.numerator c.size_of.ensures.denominator c.dot_of_numerators-level.result c.dot_of_numerators-level.ensures.size i)

pub returns-clause-value : goal.returns-clause-value
returns-clause-value c xs ys ox oy h l =
    let at = (goal.at.returns-clause-value c).After-is_above_whole in
    let is = c.dot_of_numerators-level.ensures.value xs ys ox oy h l in
    let above = above_is c.args.row.now c.args.numbers.now c.size_of.result (c.is_small.ensures c.if-not-is_small.false) c.args.side.now c.size_of.ensures.numerator c.size_of.ensures.denominator c.dot_of_numerators-level.result c.dot_of_numerators-level.ensures.size in (
      λ t. subst (λ v. c.args.side.now <ℚ v) (sym is) (above.1 (subst₂ (λ u v. u <ℤ v) (right_read at) (left_read at) (c.is_above_whole.ensures.0 t))),
      λ k. c.is_above_whole.ensures.1 (subst₂ (λ u v. u <ℤ v) (sym (right_read at)) (sym (left_read at)) (above.0 (subst (λ v. c.args.side.now <ℚ v) is k))),
    )

pub returns-clause-fits : goal.returns-clause-fits
returns-clause-fits c xs ys ox oy h l = (
  c.dot_of_numerators-level.ensures.fits xs ys ox oy h l,
  subst (λ v. FitsSum v (neg_ℚ c.args.side.now)) (sym (c.dot_of_numerators-level.ensures.value xs ys ox oy h l))
      (difference_fits c.args.row.now c.args.numbers.now c.size_of.result (c.is_small.ensures c.if-not-is_small.false) c.args.side.now c.size_of.ensures.numerator c.size_of.ensures.denominator c.dot_of_numerators-level.result c.dot_of_numerators-level.ensures.size c.over_theorems.ensures),
)
