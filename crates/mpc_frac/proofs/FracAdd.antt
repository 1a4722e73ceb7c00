-- The sum of two fractions over the least common denominator of what they have in common.
use Rattle.std.proofs.Common.{◌≡◌, ℕ, zero, suc, ◌*◌, ◌/◌, ◌^◌, ◌<◌, ◌≤◌, [], ◌∷◌, ℤ, pos, negsuc, ◌+ℤ◌, ◌*ℤ◌, int_div, unsigned_abs, T, refl, sym, ◌∙◌, ap, subst, subst₂, arith, mul-pos, lt_irrefl, div-le_self}
use native.Mathlib.Nat.{mul-div_cancel'}
use Rattle.mpc_exact.specs.Gcd.{gcd, gcd-divides_left, gcd-divides_right, gcd-positive, gcd-parts, part-positive}
use Rattle.mpc_exact.specs.Rational.{ℚ, frac, ◌+ℚ◌, is_reduced, frac_self, denom_positive, frac_reduced, abs-div}
use Rattle.mpc_frac.specs.Fits.{common, left_of_sum, right_of_sum, denom_of_sum}
use Rattle.mpc_frac.specs.Sign.{signed_like}
use Rattle.mpc_exact.proofs.IntRing.{int_reads, by_ring_ℤ}
use Rattle.mpc_exact.proofs.Rational.{same_frac}

over_common : (a c p q g : ℤ) → (a *ℤ q +ℤ c *ℤ p) *ℤ ((g *ℤ p) *ℤ (g *ℤ q)) ≡ (a *ℤ (g *ℤ q) +ℤ c *ℤ (g *ℤ p)) *ℤ ((g *ℤ p) *ℤ q)
over_common a c p q g = by_ring_ℤ (a ∷ c ∷ p ∷ q ∷ g ∷ []) (search int_reads depth 30) (search int_reads depth 30) tt

module _ (x y : ℚ) where
  abbrev g : ℕ
  g = common x y

  abbrev p : ℕ
  p = x.denom / g

  abbrev q : ℕ
  q = y.denom / g

  p_is : g * p ≡ x.denom
  p_is = mul-div_cancel' g (gcd-divides_left x.denom y.denom)

  q_is : g * q ≡ y.denom
  q_is = mul-div_cancel' g (gcd-divides_right x.denom y.denom)

  pub common_positive : 0 < common x y
  common_positive = gcd-positive x.denom y.denom (denom_positive y)

  pub denom_of_sum-positive : 0 < denom_of_sum x y
  denom_of_sum-positive = mul-pos (denom_positive x) (part-positive x.denom y.denom (denom_positive y))

  shared : (left_of_sum x y +ℤ right_of_sum x y) *ℤ pos (x.denom * y.denom) ≡ (x.numer *ℤ pos y.denom +ℤ y.numer *ℤ pos x.denom) *ℤ pos (denom_of_sum x y)
  shared = subst (λ xd. (x.numer *ℤ pos q +ℤ y.numer *ℤ pos p) *ℤ pos (xd * y.denom) ≡ (x.numer *ℤ pos y.denom +ℤ y.numer *ℤ pos xd) *ℤ pos (xd * q)) p_is
      (subst (λ yd. (x.numer *ℤ pos q +ℤ y.numer *ℤ pos p) *ℤ pos ((g * p) * yd) ≡ (x.numer *ℤ pos yd +ℤ y.numer *ℤ pos (g * p)) *ℤ pos ((g * p) * q)) q_is
      (over_common x.numer y.numer (pos p) (pos q) (pos g)))

  pub sum_is : frac (left_of_sum x y +ℤ right_of_sum x y) (denom_of_sum x y) ≡ x +ℚ y
  unfolding ◌+ℚ◌
  sum_is = same_frac (left_of_sum x y +ℤ right_of_sum x y) (denom_of_sum x y) (x.numer *ℤ pos y.denom +ℤ y.numer *ℤ pos x.denom) (x.denom * y.denom) denom_of_sum-positive (mul-pos (denom_positive x) (denom_positive y)) shared

clash : (m n : ℕ) → m ≤ n → n < m → ⊥
clash m n h k = omega arith

-- ---- lowest terms
pub signed_part : (n : ℤ) (g : ℕ) → signed_like n (pos 1) (unsigned_abs n / g) ≡ int_div n (pos g)
signed_part (pos n) g = refl
signed_part (negsuc n) g = refl

pub frac_again : (n : ℤ) (d : ℕ) → 0 < d → frac (int_div n (pos (gcd (unsigned_abs n) d))) (d / gcd (unsigned_abs n) d) ≡ frac n d
unfolding frac
frac_again n zero h = absurd (lt_irrefl 0 h)
frac_again n (suc d) h = frac_self (frac n (suc d))

at_most : (m n b : ℕ) → m ≤ n → n < b → m < b
at_most m n b h k = omega arith

-- what `reduced` writes: the numerator z over d/g
module _ (n z : ℤ) (d g : ℕ) (some : 0 < d) (gs : g ≡ gcd (unsigned_abs n) d) (zs : z ≡ signed_like n (pos 1) (unsigned_abs n / g)) (nf : unsigned_abs n < 2 ^ 127) (df : d < 2 ^ 127) where
  z_is : z ≡ int_div n (pos (gcd (unsigned_abs n) d))
  z_is = zs ∙ signed_part n g ∙ ap (λ k. int_div n (pos k)) gs

  d_is : d / g ≡ d / gcd (unsigned_abs n) d
  d_is = ap (λ k. d / k) gs

  pub part_fits : unsigned_abs z < 2 ^ 127
  part_fits = at_most (unsigned_abs z) (unsigned_abs n) (2 ^ 127) (subst (λ m. m ≤ unsigned_abs n) (sym (ap unsigned_abs z_is ∙ abs-div n (gcd (unsigned_abs n) d))) (div-le_self (unsigned_abs n) (gcd (unsigned_abs n) d))) nf

  pub rest_fits : d / g < 2 ^ 127
  rest_fits = at_most (d / g) d (2 ^ 127) (div-le_self d g) df

  pub rest_positive : 0 < d / g
  rest_positive = subst (λ m. 0 < m) (sym d_is) (part-positive (unsigned_abs n) d some)

  pub rest_coprime : gcd (unsigned_abs z) (d / g) ≡ 1
  rest_coprime = (λ i. gcd (unsigned_abs (z_is i)) (d_is i)) ∙ ap (λ k. gcd k (d / gcd (unsigned_abs n) d)) (abs-div n (gcd (unsigned_abs n) d)) ∙ gcd-parts (unsigned_abs n) d some

  pub rest_lowest : T (is_reduced z (d / g))
  rest_lowest = subst₂ (λ u v. T (is_reduced u v)) (sym z_is) (sym d_is) (frac_reduced n d some)

  pub rest_same : frac z (d / g) ≡ frac n d
  rest_same = (λ i. frac (z_is i) (d_is i)) ∙ frac_again n d some

pub sum_computed : (x y : ℚ) (l r s : ℤ) (d : ℕ) → l ≡ left_of_sum x y → r ≡ right_of_sum x y → s ≡ l +ℤ r → d ≡ denom_of_sum x y → frac s d ≡ x +ℚ y
sum_computed x y l r s d p q e h = (λ i. frac ((e ∙ (λ j. p j +ℤ q j)) i) (h i)) ∙ sum_is x y
