-- Dots of fractions that stand over one denominator each, in whole numbers.
use Rattle.std.proofs.Common.{◌≡◌, ℕ, zero, suc, ◌+◌, ◌*◌, ◌^◌, ◌<◌, ◌≤◌, ◌↔◌, List, [], ◌∷◌, length, get_or, All, ℤ, pos, ◌+ℤ◌, ◌-ℤ◌, ◌*ℤ◌, ◌<ℤ◌, neg_ℤ, unsigned_abs, FitsSigned, to_z, of_z, sym, ◌∙◌, ap, subst, subst₂, arith, mul-pos, mul_comm, mul-le-mul_right, le_trans, ⊎_elim, lit<}
use Rattle.std.proofs.Math.Nat.{mul-le-mul_left}
use lib.Signed.{mag}
use Rattle.std.specs.Int.{w128}
use Rattle.std.proofs.lemmas.Int.{ints, unsigned_abs-mul, fits_signed_from_abs, to_z-of_z, to_z_pos}
use Rattle.std.proofs.lemmas.Bool.{cases_lt}
use Rattle.std.proofs.lemmas.List.{get_or_past}
use Rattle.mpc_exact.specs.Rational.{ℚ, frac, int, ◌+ℚ◌, ◌-ℚ◌, ◌<ℚ◌, neg_ℚ, frac_self, denom_positive, IsPositive, quotient}
use Rattle.mpc_exact.proofs.IntRing.{int_reads, by_ring_ℤ}
use Rattle.mpc_exact.proofs.OrderTheorems.{*ℚ-<ℚ, *ℚ-<ℚ_cancel}
use Rattle.mpc_exact.proofs.Rational.{same_frac, frac-neg}
use Rattle.mpc_exact.proofs.School.{frac_expand, frac_times, int_lt, natural_lt, quotient_positive}
use Rattle.mpc_frac.specs.Fits.{FitsSum}
use Rattle.mpc_space.specs.Vector.{dot}
use Rattle.mpc_linear.specs.Dot.{DotFits, SumFits}
use Rattle.mpc_wholes.specs.declared.numbers.Wholes.{Wholes}
use Rattle.mpc_wholes.specs.Sums.{IsSummed}
use Rattle.mpc_wholes.specs.OverTheorems.{OverTheorems}
use Rattle.mpc_online.proofs.RowTests.{nothing_more}

-- ---- numbers as the code reads them
pub number_at : (zs : List ℤ) (most k : ℕ) → All (λ z. unsigned_abs z ≤ most) zs → unsigned_abs (get_or zs k (pos 0)) ≤ most
number_at zs most k h = ⊎_elim (λ l. h k (pos 0) l) (λ l. subst (λ z. unsigned_abs z ≤ most) (sym (get_or_past zs k (pos 0) l)) (omega arith)) (cases_lt k (length zs))

pub fits_wide : (z : ℤ) → unsigned_abs z < 2 ^ 127 → FitsSigned w128 z
fits_wide z h = fits_signed_from_abs w128 z (omega (arith, h))

pub read_wide : (z : ℤ) → unsigned_abs z < 2 ^ 127 → to_z w128 (of_z w128 z) ≡ z
read_wide z h = to_z-of_z w128 z (fits_wide z h)

pub read_mag : (z : ℤ) → mag z < 2 ^ 127 → to_z w128 (of_z w128 z) ≡ z
read_mag z h = to_z-of_z w128 z (record { sfits = h })

pub quotient_over : (t : ℤ) (den : ℕ) → 0 < den → den ≤ 2 ^ 124 → mag t < 2 ^ 127 → quotient (to_z w128 (of_z w128 t)) (to_z w128 den) ≡ frac t den
quotient_over t den some small m = (λ i. quotient (read_mag t m i) (to_z_pos w128 den (omega (arith, small)) i)) ∙ quotient_positive t den some

pub grows : (n t : ℕ) → 0 < t → n ≤ n * t
grows n zero h = absurd (omega arith)
grows n (suc t) h = omega arith

pub abs-add : (u v : ℤ) → unsigned_abs (u +ℤ v) ≤ unsigned_abs u + unsigned_abs v
abs-add u v = omega (arith, ints)

pub product_at_most : (u v : ℤ) (m n : ℕ) → unsigned_abs u ≤ m → unsigned_abs v ≤ n → unsigned_abs (u *ℤ v) ≤ m * n
product_at_most u v m n h k = subst (λ z. z ≤ m * n) (sym (unsigned_abs-mul u v)) (le_trans (mul-le-mul_right (unsigned_abs v) h) (mul-le-mul_left m k))

pub both_at_most : (a b m n : ℕ) → a ≤ m → b ≤ n → a * b ≤ m * n
both_at_most a b m n h k = le_trans (mul-le-mul_right b h) (mul-le-mul_left m k)

-- ---- sums and products over denominators
pub zero_over : (m : ℕ) → 0 < m → frac (pos 0) m ≡ int (pos 0)
zero_over m some = same_frac (pos 0) m (pos 0) 1 some (lit< tt) (no_times (pos m))
  where
    no_times : (d : ℤ) → pos 0 *ℤ pos 1 ≡ pos 0 *ℤ d
    no_times d = by_ring_ℤ (d ∷ []) (search int_reads depth 30) (search int_reads depth 30) tt

-- ---- sums of products
module _ (x y : Wholes) (t : ℤ) (xs ys : List ℚ) (g : IsSummed (frac (pos 0) (x.den * y.den)) xs ys (frac t (x.den * y.den))) where
  nothing : frac (pos 0) (x.den * y.den) ≡ int (pos 0)
  nothing = zero_over (x.den * y.den) (mul-pos x.at_most.some y.at_most.some)

  pub summed_value : dot xs ys ≡ frac t (x.den * y.den)
  summed_value = sym (g.value ∙ ap (λ z. z +ℚ dot xs ys) nothing ∙ nothing_more (dot xs ys))

  pub summed_fits : DotFits xs ys
  summed_fits = subst (λ z. SumFits z xs ys) nothing g.fits

-- ---- the dot beside a side
module _ (x y : Wholes) (s : ℕ) (small : x.most * y.most * s ≤ 2 ^ 124) (side : ℚ) (numer_at_most : unsigned_abs side.numer ≤ s) (denom_at_most : side.denom ≤ s) where
  s_some : 0 < s
  s_some = let p = denom_positive side in omega (arith, p, denom_at_most)

  pub room_small : x.most * y.most ≤ 2 ^ 124
  room_small = let g = grows (x.most * y.most) s s_some in omega (arith, g, small)

  den_room : x.den * y.den ≤ x.most * y.most
  den_room = both_at_most x.den y.den x.most y.most x.at_most.den_small y.at_most.den_small

  pub den_small : x.den * y.den < 2 ^ 127
  den_small = let d = den_room in let r = room_small in omega (arith, d, r)

  den_more : 0 < x.den * y.den
  den_more = mul-pos x.at_most.some y.at_most.some

  module _ (l : ℤ) (size : unsigned_abs l ≤ 6 * (x.most * y.most)) where
    left_at_most : unsigned_abs (l *ℤ pos side.denom) ≤ 6 * (x.most * y.most * s)
    left_at_most = let p = product_at_most l (pos side.denom) (6 * (x.most * y.most)) s size denom_at_most in let e : (6 * (x.most * y.most)) * s ≡ 6 * (x.most * y.most * s) = omega arith in subst (λ n. unsigned_abs (l *ℤ pos side.denom) ≤ n) e p

    right_at_most : unsigned_abs (side.numer *ℤ pos (x.den * y.den)) ≤ x.most * y.most * s
    right_at_most = subst (λ n. unsigned_abs (side.numer *ℤ pos (x.den * y.den)) ≤ n) (mul_comm s (x.most * y.most)) (product_at_most side.numer (pos (x.den * y.den)) s (x.most * y.most) numer_at_most den_room)

    pub left_small : unsigned_abs (l *ℤ pos side.denom) < 2 ^ 127
    left_small = let a = left_at_most in omega (arith, a, small)

    pub right_small : unsigned_abs (side.numer *ℤ pos (x.den * y.den)) < 2 ^ 127
    right_small = let a = right_at_most in omega (arith, a, small)

    abbrev all : ℕ
    all = x.den * y.den * side.denom

    all_some : 0 < x.den * y.den * side.denom
    all_some = mul-pos den_more (denom_positive side)

    all_small : x.den * y.den * side.denom < 2 ^ 127
    all_small = let p = both_at_most (x.den * y.den) side.denom (x.most * y.most) s den_room denom_at_most in omega (arith, p, small)

    level_over : frac l (x.den * y.den) ≡ frac (l *ℤ pos side.denom) all
    level_over = sym (frac_expand l (x.den * y.den) side.denom den_more (denom_positive side))

    side_over : side ≡ frac (side.numer *ℤ pos (x.den * y.den)) all
    side_over =
        sym (frac_self side) ∙ sym (frac_expand side.numer side.denom (x.den * y.den) (denom_positive side) den_more)
        ∙ ap (λ n. frac (side.numer *ℤ pos (x.den * y.den)) n) (mul_comm side.denom (x.den * y.den))

    negative_over : neg_ℚ side ≡ frac (neg_ℤ (side.numer *ℤ pos (x.den * y.den))) all
    negative_over = ap neg_ℚ side_over ∙ frac-neg (side.numer *ℤ pos (x.den * y.den)) all all_some

    abs_neg : (z : ℤ) → unsigned_abs (neg_ℤ z) ≡ unsigned_abs z
    abs_neg z = omega (arith, ints)

    pub difference_fits : OverTheorems → FitsSum (frac l (x.den * y.den)) (neg_ℚ side)
    difference_fits laws =
        let a = left_at_most in let b = right_at_most in
        let e = abs_neg (side.numer *ℤ pos (x.den * y.den)) in
        subst₂ (λ u v. FitsSum u v) (sym level_over) (sym negative_over)
        (laws.both (l *ℤ pos side.denom) (neg_ℤ (side.numer *ℤ pos (x.den * y.den))) all all_some (omega (arith, a, b, e, small)) all_small)

    pub all_at_most : unsigned_abs (pos (x.den * y.den) *ℤ pos side.denom) < 2 ^ 127
    all_at_most = subst (λ n. n < 2 ^ 127) (sym (unsigned_abs-mul (pos (x.den * y.den)) (pos side.denom))) all_small

    pub less_small : unsigned_abs (l *ℤ pos side.denom -ℤ side.numer *ℤ pos (x.den * y.den)) < 2 ^ 127
    less_small =
        let a = left_at_most in
        let b = right_at_most in
        let e = abs_neg (side.numer *ℤ pos (x.den * y.den)) in
        omega (arith, a, b, e, abs-add (l *ℤ pos side.denom) (neg_ℤ (side.numer *ℤ pos (x.den * y.den))), small)

    pub difference_is : OverTheorems → quotient (l *ℤ pos side.denom -ℤ side.numer *ℤ pos (x.den * y.den)) (pos (x.den * y.den) *ℤ pos side.denom) ≡ frac l (x.den * y.den) -ℚ side
    difference_is laws =
        quotient_positive (l *ℤ pos side.denom -ℤ side.numer *ℤ pos (x.den * y.den)) all all_some
        ∙ sym (laws.sum (l *ℤ pos side.denom) (neg_ℤ (side.numer *ℤ pos (x.den * y.den))) all all_some)
        ∙ sym (λ i. level_over i +ℚ negative_over i)

    positive_all : IsPositive (int (pos all))
    positive_all = (natural_lt 0 all).1 all_some

    pub above_is : (side <ℚ frac l (x.den * y.den)) ↔ ((side.numer *ℤ pos (x.den * y.den)) <ℤ (l *ℤ pos side.denom))
    above_is = (
      λ h. (int_lt (side.numer *ℤ pos (x.den * y.den)) (l *ℤ pos side.denom)).0
          (subst₂ (λ u v. u <ℚ v) (frac_times (side.numer *ℤ pos (x.den * y.den)) all all_some) (frac_times (l *ℤ pos side.denom) all all_some)
          (*ℚ-<ℚ positive_all (subst₂ (λ u v. u <ℚ v) side_over level_over h))),
      λ h. subst₂ (λ u v. u <ℚ v) (sym side_over) (sym level_over)
          (*ℚ-<ℚ_cancel positive_all (subst₂ (λ u v. u <ℚ v) (sym (frac_times (side.numer *ℤ pos (x.den * y.den)) all all_some)) (sym (frac_times (l *ℤ pos side.denom) all all_some))
          ((int_lt (side.numer *ℤ pos (x.den * y.den)) (l *ℤ pos side.denom)).1 h))),
    )

    pub read_den : to_z w128 (x.den * y.den) ≡ pos (x.den * y.den)
    read_den = to_z_pos w128 (x.den * y.den) den_small
