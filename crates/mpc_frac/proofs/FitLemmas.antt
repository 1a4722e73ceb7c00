-- Which numbers fit a `Frac` because others do.
use Rattle.std.proofs.Common.{◌≡◌, ◌≢◌, ℕ, zero, suc, ◌*◌, ◌/◌, ◌^◌, ◌<◌, ◌≤◌, ℤ, pos, ◌+ℤ◌, ◌*ℤ◌, neg_ℤ, int_div, unsigned_abs, refl, sym, ◌∙◌, ap, subst, arith, lit<, div-one, mul-one, div-le_self}
use Rattle.std.proofs.lemmas.Int.{ints}
use Rattle.mpc_exact.specs.Gcd.{gcd, gcd_comm, gcd_one}
use Rattle.mpc_exact.specs.Rational.{ℚ, frac, int, quotient, ◌+ℚ◌, neg_ℚ, inv_ℚ, abs-div, denom_positive, parts_coprime, frac_parts}
use Rattle.mpc_frac.specs.Fits.{FitsFrac, FitsSum, common, left_of_sum, right_of_sum, denom_of_sum}
use Rattle.mpc_frac.specs.Sign.{signed_like}
use Rattle.mpc_frac.proofs.FracMul.{signed_abs}
use Rattle.mpc_frac.proofs.FracAdd.{denom_of_sum-positive, sum_is}
use Rattle.mpc_frac.proofs.FracParts.{int_numer, int_denom, abs-neg, neg_is, size_positive, inverse_is, inverse_coprime}
use Rattle.mpc_frac.proofs.FracParts as parts

zero_small : 0 < 2 ^ 127
zero_small = lit< tt

one_small : 1 < 2 ^ 127
one_small = lit< tt

-- ---- whole numbers and quotients
pub whole_fits : (n : ℤ) → unsigned_abs n < 2 ^ 127 → FitsFrac (int n)
whole_fits n h = (subst (λ z. unsigned_abs z < 2 ^ 127) (sym (int_numer n)) h, subst (λ d. d < 2 ^ 127) (sym (int_denom n)) one_small)

smaller : (n g b : ℕ) → n < b → n / g < b
smaller n g b h = let e = div-le_self n g in omega arith

pub quotient_fits : (m n : ℤ) → n ≢ pos 0 → unsigned_abs m < 2 ^ 127 → unsigned_abs n < 2 ^ 127 → FitsFrac (quotient m n)
quotient_fits m n some h k =
    let g = gcd (unsigned_abs m) (unsigned_abs n) in
    parts.quotient_fits m n g _ _ some refl refl refl (smaller (unsigned_abs m) g (2 ^ 127) h) (smaller (unsigned_abs n) g (2 ^ 127) k)

-- ---- the negative and the inverse
module _ (x : ℚ) where
  negative_parts : ((neg_ℚ x).numer ≡ neg_ℤ x.numer) × ((neg_ℚ x).denom ≡ x.denom)
  negative_parts = subst (λ (z : ℚ). (z.numer ≡ neg_ℤ x.numer) × (z.denom ≡ x.denom)) (neg_is x)
      (frac_parts (neg_ℤ x.numer) x.denom (denom_positive x) (ap (λ n. gcd n x.denom) (abs-neg x.numer) ∙ parts_coprime x))

  pub negative_fits : FitsFrac x → FitsFrac (neg_ℚ x)
  negative_fits h = (subst (λ n. n < 2 ^ 127) (sym (ap unsigned_abs negative_parts.0 ∙ abs-neg x.numer)) h.0, subst (λ d. d < 2 ^ 127) (sym negative_parts.1) h.1)

  pub inverse_fits : x ≢ int (pos 0) → FitsFrac x → FitsFrac (inv_ℚ x)
  inverse_fits some h =
      let p = frac_parts (signed_like x.numer (pos 1) x.denom) (unsigned_abs x.numer) (size_positive x some) (inverse_coprime x) in
      subst (λ (z : ℚ). FitsFrac z) (inverse_is x)
      (subst (λ n. n < 2 ^ 127) (sym (ap unsigned_abs p.0 ∙ signed_abs x.numer (pos 1) x.denom)) h.1, subst (λ n. n < 2 ^ 127) (sym p.1) h.0)

-- ---- sums
below_both : (m n b : ℕ) → m ≤ n → n < b → m < b
below_both m n b h k = omega arith

frac_small : (n : ℤ) (d : ℕ) → 0 < d → unsigned_abs n < 2 ^ 127 → d < 2 ^ 127 → FitsFrac (frac n d)
unfolding frac
frac_small n zero h k l = absurd (omega arith)
frac_small n (suc d) h k l =
    let g = gcd (unsigned_abs n) (suc d) in
    (below_both (unsigned_abs (int_div n (pos g))) (unsigned_abs n) (2 ^ 127) (subst (λ m. m ≤ unsigned_abs n) (sym (abs-div n g)) (div-le_self (unsigned_abs n) g)) k, below_both (suc d / g) (suc d) (2 ^ 127) (div-le_self (suc d) g) l)

pub sum_fits : (x y : ℚ) → FitsSum x y → FitsFrac (x +ℚ y)
sum_fits x y h = subst (λ (z : ℚ). FitsFrac z) (sum_is x y) (frac_small (left_of_sum x y +ℤ right_of_sum x y) (denom_of_sum x y) (denom_of_sum-positive x y) h.sum h.denom)

-- ---- the sum with 0, of parts 0 and 1
times_one : (z : ℤ) (n : ℕ) → n ≡ 1 → z *ℤ pos n ≡ z
times_one z n e = ap (λ k. z *ℤ pos k) e ∙ omega (arith, ints)

times_nought : (z : ℤ) (n : ℕ) → z ≡ pos 0 → z *ℤ pos n ≡ pos 0
times_nought z n e = ap (λ k. k *ℤ pos n) e ∙ omega (arith, ints)

module _ (x : ℚ) where
  before_common : common x (int (pos 0)) ≡ 1
  before_common = ap (λ d. gcd x.denom d) (int_denom (pos 0)) ∙ gcd_one x.denom

  before_left : left_of_sum x (int (pos 0)) ≡ x.numer
  before_left = times_one x.numer ((int (pos 0)).denom / common x (int (pos 0))) ((λ i. int_denom (pos 0) i / before_common i) ∙ div-one 1)

  before_right : right_of_sum x (int (pos 0)) ≡ pos 0
  before_right = times_nought (int (pos 0)).numer (x.denom / common x (int (pos 0))) (int_numer (pos 0))

  before_sum : left_of_sum x (int (pos 0)) +ℤ right_of_sum x (int (pos 0)) ≡ x.numer
  before_sum = (λ i. before_left i +ℤ before_right i) ∙ omega (arith, ints)

  before_below : denom_of_sum x (int (pos 0)) ≡ x.denom
  before_below = ap (λ k. x.denom * k) ((λ i. int_denom (pos 0) i / before_common i) ∙ div-one 1) ∙ mul-one x.denom

  pub fits_before_zero : FitsFrac x → FitsSum x (int (pos 0))
  fits_before_zero h = record {
    left = subst (λ z. unsigned_abs z < 2 ^ 127) (sym before_left) h.0;
    right = subst (λ z. unsigned_abs z < 2 ^ 127) (sym before_right) zero_small;
    sum = subst (λ z. unsigned_abs z < 2 ^ 127) (sym before_sum) h.0;
    denom = subst (λ d. d < 2 ^ 127) (sym before_below) h.1;
  }

  behind_common : common (int (pos 0)) x ≡ 1
  behind_common = gcd_comm (int (pos 0)).denom x.denom ∙ ap (λ d. gcd x.denom d) (int_denom (pos 0)) ∙ gcd_one x.denom

  behind_left : left_of_sum (int (pos 0)) x ≡ pos 0
  behind_left = times_nought (int (pos 0)).numer (x.denom / common (int (pos 0)) x) (int_numer (pos 0))

  behind_right : right_of_sum (int (pos 0)) x ≡ x.numer
  behind_right = times_one x.numer ((int (pos 0)).denom / common (int (pos 0)) x) ((λ i. int_denom (pos 0) i / behind_common i) ∙ div-one 1)

  behind_sum : left_of_sum (int (pos 0)) x +ℤ right_of_sum (int (pos 0)) x ≡ x.numer
  behind_sum = (λ i. behind_left i +ℤ behind_right i) ∙ omega (arith, ints)

  behind_below : denom_of_sum (int (pos 0)) x ≡ x.denom
  behind_below = (λ i. int_denom (pos 0) i * (x.denom / behind_common i)) ∙ ap (λ k. 1 * k) (div-one x.denom) ∙ omega arith

  pub fits_behind_zero : FitsFrac x → FitsSum (int (pos 0)) x
  fits_behind_zero h = record {
    left = subst (λ z. unsigned_abs z < 2 ^ 127) (sym behind_left) zero_small;
    right = subst (λ z. unsigned_abs z < 2 ^ 127) (sym behind_right) h.0;
    sum = subst (λ z. unsigned_abs z < 2 ^ 127) (sym behind_sum) h.0;
    denom = subst (λ d. d < 2 ^ 127) (sym behind_below) h.1;
  }
