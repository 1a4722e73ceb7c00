-- Sums of the negatives of numbers that fit.
use Rattle.std.proofs.Common.{◌≡◌, ℕ, zero, suc, ◌*◌, ◌/◌, ◌^◌, ◌<◌, ℤ, pos, negsuc, ◌+ℤ◌, ◌*ℤ◌, neg_ℤ, unsigned_abs, refl, sym, ◌∙◌, ap, subst, subst₂, arith, mul-one, lit<}
use Rattle.std.proofs.Math.Nat.{div_self}
use Rattle.std.proofs.Math.IntN.{neg_ℤ-neg_ℤ, neg_ℤ-+ℤ, negsuc-*ℤ-pos}
use Rattle.std.proofs.lemmas.Int.{ints}
use Rattle.std.proofs.lemmas.Nat.Gcd.{dvd_antisymm, dvd_refl}
use Rattle.mpc_exact.specs.Gcd.{gcd, gcd_greatest, gcd-divides_left}
use Rattle.mpc_exact.specs.Rational.{ℚ, frac, neg_ℚ, denom_positive, parts_coprime, frac_parts}
use Rattle.mpc_frac.specs.Fits.{FitsFrac, FitsSum, common, left_of_sum, right_of_sum, denom_of_sum}

pub fits_as : (x y : ℚ) → x ≡ y → FitsFrac x → FitsFrac y
fits_as x y e h = subst (λ z. FitsFrac z) e h

pub fits_sum_as : (x y u v : ℚ) → x ≡ u → y ≡ v → FitsSum x y → FitsSum u v
fits_sum_as x y u v e f h = subst₂ (λ a b. FitsSum a b) e f h

abs-negated : (a : ℤ) → unsigned_abs (neg_ℤ a) ≡ unsigned_abs a
abs-negated (pos zero) = refl
abs-negated (pos (suc n)) = refl
abs-negated (negsuc n) = refl

gcd_self : (n : ℕ) → gcd n n ≡ n
gcd_self n = dvd_antisymm (gcd-divides_left n n) (gcd_greatest n n n (dvd_refl n) (dvd_refl n))

-- ---- negatives
neg_is : (x : ℚ) → frac (neg_ℤ x.numer) x.denom ≡ neg_ℚ x
unfolding neg_ℚ
neg_is x = refl

neg_parts : (x : ℚ) → ((neg_ℚ x).numer ≡ neg_ℤ x.numer) × ((neg_ℚ x).denom ≡ x.denom)
neg_parts x =
    let p = frac_parts (neg_ℤ x.numer) x.denom (denom_positive x) (ap (λ n. gcd n x.denom) (abs-negated x.numer) ∙ parts_coprime x) in
    (ap (λ u. u.numer) (sym (neg_is x)) ∙ p.0, ap (λ u. u.denom) (sym (neg_is x)) ∙ p.1)

neg_times : (a : ℤ) (n : ℕ) → neg_ℤ a *ℤ pos n ≡ neg_ℤ (a *ℤ pos n)
neg_times (pos zero) n = omega (arith, ints)
neg_times (pos (suc m)) n = negsuc-*ℤ-pos m n
neg_times (negsuc m) n = sym (ap neg_ℤ (negsuc-*ℤ-pos m n) ∙ neg_ℤ-neg_ℤ (pos (suc m * n)))

module _ (x y : ℚ) where
  same_common : common (neg_ℚ x) (neg_ℚ y) ≡ common x y
  same_common = λ i. gcd ((neg_parts x).1 i) ((neg_parts y).1 i)

  neg_left : left_of_sum (neg_ℚ x) (neg_ℚ y) ≡ neg_ℤ (left_of_sum x y)
  neg_left = (λ i. (neg_parts x).0 i *ℤ pos ((neg_parts y).1 i / same_common i)) ∙ neg_times x.numer (y.denom / common x y)

  neg_right : right_of_sum (neg_ℚ x) (neg_ℚ y) ≡ neg_ℤ (right_of_sum x y)
  neg_right = (λ i. (neg_parts y).0 i *ℤ pos ((neg_parts x).1 i / same_common i)) ∙ neg_times y.numer (x.denom / common x y)

  neg_sum : left_of_sum (neg_ℚ x) (neg_ℚ y) +ℤ right_of_sum (neg_ℚ x) (neg_ℚ y) ≡ neg_ℤ (left_of_sum x y +ℤ right_of_sum x y)
  neg_sum = (λ i. neg_left i +ℤ neg_right i) ∙ sym (neg_ℤ-+ℤ (left_of_sum x y) (right_of_sum x y))

  neg_below : denom_of_sum (neg_ℚ x) (neg_ℚ y) ≡ denom_of_sum x y
  neg_below = λ i. (neg_parts x).1 i * ((neg_parts y).1 i / same_common i)

  neg_small : (z w : ℤ) → z ≡ neg_ℤ w → unsigned_abs w < 2 ^ 127 → unsigned_abs z < 2 ^ 127
  neg_small z w e h = subst (λ n. n < 2 ^ 127) (sym (ap unsigned_abs e ∙ abs-negated w)) h

  pub fits_sum_neg : FitsSum x y → FitsSum (neg_ℚ x) (neg_ℚ y)
  fits_sum_neg h = record {
    left = neg_small _ _ neg_left h.left;
    right = neg_small _ _ neg_right h.right;
    sum = neg_small _ _ neg_sum h.sum;
    denom = subst (λ d. d < 2 ^ 127) (sym neg_below) h.denom;
  }

-- a number added to its negative
module _ (x : ℚ) where
  own_common : common (neg_ℚ x) x ≡ x.denom
  own_common = ap (λ d. gcd d x.denom) (neg_parts x).1 ∙ gcd_self x.denom

  once : (n : ℕ) → 0 < n → n / n ≡ 1
  once n h = div_self h

  left_is : left_of_sum (neg_ℚ x) x ≡ neg_ℤ x.numer
  left_is = (λ i. (neg_parts x).0 i *ℤ pos (x.denom / own_common i)) ∙ ap (λ k. neg_ℤ x.numer *ℤ pos k) (once x.denom (denom_positive x)) ∙ omega (arith, ints)

  right_is : right_of_sum (neg_ℚ x) x ≡ x.numer
  right_is = (λ i. x.numer *ℤ pos ((neg_parts x).1 i / own_common i)) ∙ ap (λ k. x.numer *ℤ pos k) (once x.denom (denom_positive x)) ∙ omega (arith, ints)

  sum_none : left_of_sum (neg_ℚ x) x +ℤ right_of_sum (neg_ℚ x) x ≡ pos 0
  sum_none = (λ i. left_is i +ℤ right_is i) ∙ omega (arith, ints)

  below_is : denom_of_sum (neg_ℚ x) x ≡ x.denom
  below_is = (λ i. (neg_parts x).1 i * (x.denom / own_common i)) ∙ ap (λ k. x.denom * k) (once x.denom (denom_positive x)) ∙ mul-one x.denom

  pub fits_sum_own : FitsFrac x → FitsSum (neg_ℚ x) x
  fits_sum_own h = record {
    left = subst (λ n. n < 2 ^ 127) (sym (ap unsigned_abs left_is ∙ abs-negated x.numer)) h.0;
    right = subst (λ z. unsigned_abs z < 2 ^ 127) (sym right_is) h.0;
    sum = subst (λ z. unsigned_abs z < 2 ^ 127) (sym sum_none) (lit< tt);
    denom = subst (λ d. d < 2 ^ 127) (sym below_is) h.1;
  }
