-- The sum of two fractions that have one denominator.
use Rattle.std.proofs.Common.{◌≡◌, ℕ, ◌*◌, ◌/◌, ◌^◌, ◌<◌, ◌≤◌, ℤ, pos, ◌+ℤ◌, ◌*ℤ◌, unsigned_abs, sym, ◌∙◌, ap, subst, arith, mul-one, to_z, of_z}
use Rattle.std.specs.Int.{w128}
use Rattle.std.proofs.lemmas.Int.{ints}
use Rattle.std.proofs.Math.Nat.{div_self}
use Rattle.mpc_exact.specs.Gcd.{gcd}
use Rattle.mpc_exact.specs.Rational.{ℚ, frac, ◌+ℚ◌, denom_positive}
use Rattle.mpc_frac.specs.Fits.{FitsFrac, FitsSum, common, left_of_sum, right_of_sum, denom_of_sum}
use Rattle.mpc_frac.proofs.FracAdd.{sum_is}
use Rattle.mpc_frac.proofs.FracModel.{read_back}
use Rattle.mpc_frac.proofs.Binary.{gcd_self}

times_one : (z : ℤ) (n : ℕ) → n ≡ 1 → z *ℤ pos n ≡ z
times_one z n e = ap (λ k. z *ℤ pos k) e ∙ omega (arith, ints)

clash : (m n : ℕ) → m ≤ n → n < m → ⊥
clash m n h k = omega arith

-- the numerators as the code has them
pub numers_read : (x y : ℚ) (a c : ℤ) → a ≡ x.numer → c ≡ y.numer → FitsFrac x → FitsFrac y → to_z w128 (of_z w128 a) +ℤ to_z w128 (of_z w128 c) ≡ x.numer +ℤ y.numer
numers_read x y a c p q f g =
    λ i. (ap (λ z. to_z w128 (of_z w128 z)) p ∙ read_back x.numer f.0) i +ℤ (ap (λ z. to_z w128 (of_z w128 z)) q ∙ read_back y.numer g.0) i

module _ (x y : ℚ) (e : x.denom ≡ y.denom) where
  common_left : common x y ≡ x.denom
  common_left = ap (gcd x.denom) (sym e) ∙ gcd_self x.denom

  left_part : x.denom / common x y ≡ 1
  left_part = ap (λ n. x.denom / n) common_left ∙ div_self (denom_positive x)

  right_part : y.denom / common x y ≡ 1
  right_part = ap (λ n. n / common x y) (sym e) ∙ left_part

  left_is : left_of_sum x y ≡ x.numer
  left_is = times_one x.numer (y.denom / common x y) right_part

  right_is : right_of_sum x y ≡ y.numer
  right_is = times_one y.numer (x.denom / common x y) left_part

  num_is : left_of_sum x y +ℤ right_of_sum x y ≡ x.numer +ℤ y.numer
  num_is = λ i. left_is i +ℤ right_is i

  below_is : denom_of_sum x y ≡ x.denom
  below_is = ap (λ n. x.denom * n) right_part ∙ mul-one x.denom

  module _ (s : ℤ) (d : ℕ) (s_is : s ≡ x.numer +ℤ y.numer) where
    pub like_value : d ≡ x.denom → frac s d ≡ x +ℚ y
    like_value k = (λ i. frac ((s_is ∙ sym num_is) i) ((k ∙ sym below_is) i)) ∙ sum_is x y

    pub like_fits : FitsFrac x → FitsFrac y → unsigned_abs s < 2 ^ 127 → FitsSum x y
    like_fits f g h = record {
      left = subst (λ z. unsigned_abs z < 2 ^ 127) (sym left_is) f.0;
      right = subst (λ z. unsigned_abs z < 2 ^ 127) (sym right_is) g.0;
      sum = subst (λ z. unsigned_abs z < 2 ^ 127) (s_is ∙ sym num_is) h;
      denom = subst (λ n. n < 2 ^ 127) (sym below_is) f.1;
    }

  pub like_wide : (s : ℤ) → s ≡ x.numer +ℤ y.numer → 2 ^ 127 ≤ unsigned_abs s → ¬ FitsSum x y
  like_wide s s_is h f = clash (2 ^ 127) (unsigned_abs s) h (subst (λ z. unsigned_abs z < 2 ^ 127) (num_is ∙ sym s_is) f.sum)
