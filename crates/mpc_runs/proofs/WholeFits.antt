-- Which fractions of whole numbers over one denominator fit, and so do their sums.
use Rattle.std.proofs.Common.{◌≡◌, ℕ, zero, suc, ◌+◌, ◌*◌, ◌/◌, ◌^◌, ◌<◌, ◌≤◌, ℤ, pos, ◌+ℤ◌, unsigned_abs, sym, ◌∙◌, ap, subst, subst₂, arith, mul_comm, div-le_self}
use Rattle.std.specs.Int.{◌∣◌}
use Rattle.std.proofs.lemmas.Int.{ints, unsigned_abs-mul}
use native.Mathlib.Nat.{mul-div_cancel', eq_of_mul-eq-mul_right, pos_of_dvd_of_pos, dvd-mul_left}
use Rattle.mpc_exact.specs.Gcd.{gcd, gcd-divides_left, gcd-divides_right, lcm, lcm_least}
use Rattle.mpc_exact.specs.Rational.{ℚ, frac, abs-div, denom_positive}
use Rattle.mpc_exact.proofs.Rational.{frac_cross}
use Rattle.mpc_frac.specs.Fits.{FitsFrac, FitsSum, left_of_sum, right_of_sum, denom_of_sum}

below_at_most : (m n b : ℕ) → m ≤ n → n < b → m < b
below_at_most m n b h k = omega arith

-- ---- one fraction
pub numer_shrinks : (a : ℤ) (m : ℕ) → 0 < m → unsigned_abs (frac a m).numer ≤ unsigned_abs a
unfolding frac
numer_shrinks a zero h = absurd (omega arith)
numer_shrinks a (suc m) h = subst (λ n. n ≤ unsigned_abs a) (sym (abs-div a (gcd (unsigned_abs a) (suc m)))) (div-le_self (unsigned_abs a) (gcd (unsigned_abs a) (suc m)))

pub denom_shrinks : (a : ℤ) (m : ℕ) → 0 < m → (frac a m).denom ≤ m
unfolding frac
denom_shrinks a zero h = absurd (omega arith)
denom_shrinks a (suc m) h = div-le_self (suc m) (gcd (unsigned_abs a) (suc m))

pub denom_divides : (a : ℤ) (m : ℕ) → 0 < m → (frac a m).denom ∣ m
unfolding frac
denom_divides a zero h = absurd (omega arith)
denom_divides a (suc m) h =
    let g = gcd (unsigned_abs a) (suc m) in
    let e : g * (suc m / g) ≡ suc m = mul-div_cancel' g (gcd-divides_right (unsigned_abs a) (suc m)) in
    subst (λ n. suc m / g ∣ n) e (dvd-mul_left (suc m / g) g)

pub fits_over : (a : ℤ) (m : ℕ) → 0 < m → unsigned_abs a < 2 ^ 127 → m < 2 ^ 127 → FitsFrac (frac a m)
fits_over a m some h k = (below_at_most _ _ (2 ^ 127) (numer_shrinks a m some) h, below_at_most _ _ (2 ^ 127) (denom_shrinks a m some) k)

-- ---- a sum over a common denominator
grows : (n t : ℕ) → 0 < t → n ≤ n * t
grows n zero h = absurd (omega arith)
grows n (suc t) h = omega arith

shrunk : (n q t xd a : ℕ) → 0 < xd → 0 < t → n * ((xd * q) * t) ≡ a * xd → n * q ≤ a
shrunk n q t xd a some more e =
    let l : ((n * q) * t) * xd ≡ a * xd = (let r : ((n * q) * t) * xd ≡ n * ((xd * q) * t) = omega arith in r) ∙ e in
    let same : (n * q) * t ≡ a = eq_of_mul-eq-mul_right xd some _ _ l in
    subst (λ z. n * q ≤ z) same (grows (n * q) t more)

abs_cross : (a : ℤ) (m : ℕ) → 0 < m → unsigned_abs (frac a m).numer * m ≡ unsigned_abs a * (frac a m).denom
abs_cross a m some = sym (unsigned_abs-mul (frac a m).numer (pos m)) ∙ ap unsigned_abs (frac_cross a m some) ∙ unsigned_abs-mul a (pos (frac a m).denom)

abs-add : (u v : ℤ) → unsigned_abs (u +ℤ v) ≤ unsigned_abs u + unsigned_abs v
abs-add u v = omega (arith, ints)

module _ (a c : ℤ) (m : ℕ) (some : 0 < m) where
  abbrev x : ℚ
  x = frac a m

  abbrev y : ℚ
  y = frac c m

  abbrev g : ℕ
  g = gcd x.denom y.denom

  x_is : g * (x.denom / g) ≡ x.denom
  x_is = mul-div_cancel' g (gcd-divides_left x.denom y.denom)

  y_is : g * (y.denom / g) ≡ y.denom
  y_is = mul-div_cancel' g (gcd-divides_right x.denom y.denom)

  turned_over : (g p q xd yd : ℕ) → g * p ≡ xd → g * q ≡ yd → xd * q ≡ p * yd
  turned_over g p q xd yd e f = subst₂ (λ u v. u * q ≡ p * v) e f (omega arith)

  divides : denom_of_sum x y ∣ m
  unfolding lcm
  divides =
      subst (λ z. z ∣ m) (sym (turned_over g (x.denom / g) (y.denom / g) x.denom y.denom x_is y_is))
      (lcm_least x.denom y.denom m (denom_divides a m some) (denom_divides c m some))

  abbrev over : ℕ
  over = m / denom_of_sum x y

  over_is : denom_of_sum x y * over ≡ m
  over_is = mul-div_cancel' (denom_of_sum x y) divides

  over_some : 0 < over
  over_some = pos_of_dvd_of_pos (subst (λ n. over ∣ n) over_is (dvd-mul_left over (denom_of_sum x y))) some

  left_small : unsigned_abs (left_of_sum x y) ≤ unsigned_abs a
  left_small =
      subst (λ n. n ≤ unsigned_abs a) (sym (unsigned_abs-mul x.numer (pos (y.denom / g))))
      (shrunk (unsigned_abs x.numer) (y.denom / g) over x.denom (unsigned_abs a) (denom_positive x) over_some (ap (λ n. unsigned_abs x.numer * n) over_is ∙ abs_cross a m some))

  right_small : unsigned_abs (right_of_sum x y) ≤ unsigned_abs c
  right_small =
      subst (λ n. n ≤ unsigned_abs c) (sym (unsigned_abs-mul y.numer (pos (x.denom / g))))
      (shrunk (unsigned_abs y.numer) (x.denom / g) over y.denom (unsigned_abs c) (denom_positive y) over_some
      (ap (λ n. unsigned_abs y.numer * n) (ap (λ n. n * over) (mul_comm y.denom (x.denom / g) ∙ sym (turned_over g (x.denom / g) (y.denom / g) x.denom y.denom x_is y_is)) ∙ over_is) ∙ abs_cross c m some))

  pub fits_sum_over : unsigned_abs a + unsigned_abs c < 2 ^ 127 → m < 2 ^ 127 → FitsSum (frac a m) (frac c m)
  fits_sum_over h k =
      let l : unsigned_abs (left_of_sum x y) ≤ unsigned_abs a = left_small in
      let r : unsigned_abs (right_of_sum x y) ≤ unsigned_abs c = right_small in
      let t : unsigned_abs (left_of_sum x y +ℤ right_of_sum x y) ≤ unsigned_abs (left_of_sum x y) + unsigned_abs (right_of_sum x y) = abs-add (left_of_sum x y) (right_of_sum x y) in
      let d : denom_of_sum x y ≤ m = subst (λ n. denom_of_sum x y ≤ n) over_is (grows (denom_of_sum x y) over over_some) in
      record {
        left = below_at_most _ _ (2 ^ 127) (omega (arith, l)) h;
        right = below_at_most _ _ (2 ^ 127) (omega (arith, r)) h;
        sum = below_at_most _ _ (2 ^ 127) (omega (arith, l, r, t)) h;
        denom = below_at_most _ _ (2 ^ 127) d k;
      }
