use Rattle.std.proofs.Common.{◌≡◌, ◌*◌, ◌^◌, ◌<◌, pos, to_z, of_z, ◌*ℤ◌, ◌-ℤ◌, unsigned_abs, sym, ◌∙◌, ap, subst}
use Rattle.std.specs.Int.{w128}
use Rattle.mpc_exact.specs.Rational.{neg_ℚ, ◌-ℚ◌, quotient}
use Rattle.mpc_frac.specs.Fits.{FitsSum}
use Rattle.mpc_online.proofs.WholeDots.{read_mag, read_den, left_small, right_small, all_at_most, less_small, difference_is, difference_fits}
use Rattle.mpc_online.proofs.wholes.difference_in_wholes.Goals as goal
use Rattle.mpc_online.proofs.wholes.difference_in_wholes.Goals.{After-den, After-product-right}

left_is : (c : After-den) → to_z w128 (of_z w128 c.dot_of_numerators-level.result) *ℤ to_z w128 (of_z w128 c.den.result) ≡ c.dot_of_numerators-level.result *ℤ pos c.args.side.now.denom
left_is c = λ i. read_mag c.dot_of_numerators-level.result c.dot_of_numerators-level.type_inv i *ℤ (read_mag c.den.result c.den.type_inv ∙ c.den.ensures.value) i

pub product-left-requires : goal.product-left-requires
product-left-requires c =
    subst (λ z. unsigned_abs z < 2 ^ 127) (sym (left_is (goal.at.product-left-requires c).After-den))
    (left_small c.args.row.now c.args.numbers.now c.size_of.result (c.is_small.ensures c.if-not-is_small.false) c.args.side.now c.size_of.ensures.numerator c.size_of.ensures.denominator c.dot_of_numerators-level.result c.dot_of_numerators-level.ensures.size)

pub product-right-requires : goal.product-right-requires
product-right-requires c =
    subst (λ z. unsigned_abs z < 2 ^ 127)
    (sym (λ i. (read_mag c.num.result c.num.type_inv ∙ c.num.ensures.value) i
    *ℤ read_den c.args.row.now c.args.numbers.now c.size_of.result (c.is_small.ensures c.if-not-is_small.false) c.args.side.now c.size_of.ensures.numerator c.size_of.ensures.denominator c.dot_of_numerators-level.result c.dot_of_numerators-level.ensures.size i))
    (right_small c.args.row.now c.args.numbers.now c.size_of.result (c.is_small.ensures c.if-not-is_small.false) c.args.side.now c.size_of.ensures.numerator c.size_of.ensures.denominator c.dot_of_numerators-level.result c.dot_of_numerators-level.ensures.size)

left_read : (c : After-product-right) → to_z w128 (of_z w128 c.product-left.result) ≡ c.dot_of_numerators-level.result *ℤ pos c.args.side.now.denom
left_read c =
    read_mag c.product-left.result c.product-left.type_inv ∙ c.product-left.ensures
    ∙ (λ i. read_mag c.dot_of_numerators-level.result c.dot_of_numerators-level.type_inv i *ℤ (read_mag c.den.result c.den.type_inv ∙ c.den.ensures.value) i)

right_read : (c : After-product-right) → to_z w128 (of_z w128 c.product-right.result) ≡ c.args.side.now.numer *ℤ pos (c.args.row.now.den * c.args.numbers.now.den)
right_read c =
    read_mag c.product-right.result c.product-right.type_inv ∙ c.product-right.ensures
    ∙ (λ i. (read_mag c.num.result c.num.type_inv ∙ c.num.ensures.value) i
    *ℤ read_den c.args.row.now c.args.numbers.now c.size_of.result (c.is_small.ensures c.if-not-is_small.false) c.args.side.now c.size_of.ensures.numerator c.size_of.ensures.denominator c.dot_of_numerators-level.result c.dot_of_numerators-level.ensures.size i)

pub difference-above-requires : goal.difference-above-requires
difference-above-requires c =
    let at = (goal.at.difference-above-requires c).After-product-right in
    subst (λ z. unsigned_abs z < 2 ^ 127) (sym (λ i. left_read at i -ℤ right_read at i))
    (less_small c.args.row.now c.args.numbers.now c.size_of.result (c.is_small.ensures c.if-not-is_small.false) c.args.side.now c.size_of.ensures.numerator c.size_of.ensures.denominator c.dot_of_numerators-level.result c.dot_of_numerators-level.ensures.size)

pub product-below-requires : goal.product-below-requires
product-below-requires c =
    subst (λ z. unsigned_abs z < 2 ^ 127)
    (sym (λ i. read_den c.args.row.now c.args.numbers.now c.size_of.result (c.is_small.ensures c.if-not-is_small.false) c.args.side.now c.size_of.ensures.numerator c.size_of.ensures.denominator c.dot_of_numerators-level.result c.dot_of_numerators-level.ensures.size i
    *ℤ (read_mag c.den-2.result c.den-2.type_inv ∙ c.den-2.ensures.value) i))
    (all_at_most c.args.row.now c.args.numbers.now c.size_of.result (c.is_small.ensures c.if-not-is_small.false) c.args.side.now c.size_of.ensures.numerator c.size_of.ensures.denominator c.dot_of_numerators-level.result c.dot_of_numerators-level.ensures.size)

pub returns-clause-value : goal.returns-clause-value
returns-clause-value c xs ys ox oy h l =
    let at = (goal.at.returns-clause-value c).After-product-right in
    let above = read_mag c.difference-above.result c.difference-above.type_inv ∙ c.difference-above.ensures ∙ (λ j. left_read at j -ℤ right_read at j) in
    let below =
    read_mag c.product-below.result c.product-below.type_inv ∙ c.product-below.ensures
    ∙ (λ j. read_den c.args.row.now c.args.numbers.now c.size_of.result (c.is_small.ensures c.if-not-is_small.false) c.args.side.now c.size_of.ensures.numerator c.size_of.ensures.denominator c.dot_of_numerators-level.result c.dot_of_numerators-level.ensures.size j
    *ℤ (read_mag c.den-2.result c.den-2.type_inv ∙ c.den-2.ensures.value) j)
    in
    c.in-Ok.ensures.value ∙ (λ i. quotient (above i) (below i))
    ∙ difference_is c.args.row.now c.args.numbers.now c.size_of.result (c.is_small.ensures c.if-not-is_small.false) c.args.side.now c.size_of.ensures.numerator c.size_of.ensures.denominator c.dot_of_numerators-level.result c.dot_of_numerators-level.ensures.size c.over_theorems.ensures
    ∙ ap (λ v. v -ℚ c.args.side.now) (sym (c.dot_of_numerators-level.ensures.value xs ys ox oy h l))

pub returns-clause-fits : goal.returns-clause-fits
returns-clause-fits c xs ys ox oy h l = (
  c.dot_of_numerators-level.ensures.fits xs ys ox oy h l,
  subst (λ v. FitsSum v (neg_ℚ c.args.side.now)) (sym (c.dot_of_numerators-level.ensures.value xs ys ox oy h l))
      (difference_fits c.args.row.now c.args.numbers.now c.size_of.result (c.is_small.ensures c.if-not-is_small.false) c.args.side.now c.size_of.ensures.numerator c.size_of.ensures.denominator c.dot_of_numerators-level.result c.dot_of_numerators-level.ensures.size c.over_theorems.ensures),
)
