-- The parts of a fraction: its sign, its negative, its inverse, and the quotient of two integers.
use Rattle.std.proofs.Common.{◌≡◌, ◌≢◌, ℕ, zero, suc, ◌*◌, ◌/◌, ◌^◌, ◌<◌, ◌≤◌, [], ◌∷◌, ℤ, pos, negsuc, ◌*ℤ◌, ◌<ℤ◌, neg_ℤ, unsigned_abs, ◌↔◌, refl, sym, ◌∙◌, ap, subst, subst₂, arith, zero-lt-suc, mul-one, lit<, mul-pos, ◌⊎◌, ⊎_elim}
use native.Mathlib.Nat.{mul-div_cancel', eq-one_of_dvd-one}
use Rattle.mpc_exact.specs.Gcd.{gcd, gcd_comm, gcd-divides_left, gcd-divides_right, gcd-parts, part-positive}
use Rattle.mpc_exact.specs.Rational.{ℚ, frac, int, ◌*ℚ◌, ◌<ℚ◌, neg_ℚ, inv_ℚ, upside_down, frac_parts, parts_coprime, quotient}
use Rattle.mpc_exact.proofs.Rational.{numer_zero, same_frac, frac-mul, *ℚ_inv, *ℚ_assoc, *ℚ_one}
use Rattle.mpc_exact.proofs.IntRing.{int_reads, by_ring_ℤ}
use Rattle.mpc_frac.specs.Fits.{FitsFrac}
use Rattle.mpc_frac.specs.Sign.{signed_like}
use Rattle.mpc_frac.proofs.FracMul.{signed_abs}

clash : (m n : ℕ) → m ≤ n → n < m → ⊥
clash m n h k = omega arith

-- ---- whole numbers
pub one_coprime : (n : ℕ) → gcd n 1 ≡ 1
one_coprime n = eq-one_of_dvd-one (gcd-divides_right n 1)

pub int_numer : (n : ℤ) → (int n).numer ≡ n
int_numer n = (frac_parts n 1 (lit< tt) (one_coprime (unsigned_abs n))).0

pub int_denom : (n : ℤ) → (int n).denom ≡ 1
int_denom n = (frac_parts n 1 (lit< tt) (one_coprime (unsigned_abs n))).1

-- ---- signs
times_one : (z : ℤ) → z *ℤ pos 1 ≡ z
times_one z = by_ring_ℤ (z ∷ []) (search int_reads depth 30) (search int_reads depth 30) tt

zero_times : (z : ℤ) → pos 0 *ℤ z ≡ pos 0
zero_times z = by_ring_ℤ (z ∷ []) (search int_reads depth 30) (search int_reads depth 30) tt

module _ (x : ℚ) where
  left_is : x.numer *ℤ pos (int (pos 0)).denom ≡ x.numer
  left_is = ap (λ d. x.numer *ℤ pos d) (int_denom (pos 0)) ∙ times_one x.numer

  right_is : (int (pos 0)).numer *ℤ pos x.denom ≡ pos 0
  right_is = ap (λ n. n *ℤ pos x.denom) (int_numer (pos 0)) ∙ zero_times (pos x.denom)

  pub below_zero : (x.numer <ℤ pos 0) ↔ (x <ℚ int (pos 0))
  below_zero = (λ h. record { below = subst₂ (λ u v. u <ℤ v) (sym left_is) (sym right_is) h }, λ h. subst₂ (λ u v. u <ℤ v) left_is right_is h.below)

  pub above_zero : (pos 0 <ℤ x.numer) ↔ (int (pos 0) <ℚ x)
  above_zero = (λ h. record { below = subst₂ (λ u v. u <ℤ v) (sym right_is) (sym left_is) h }, λ h. subst₂ (λ u v. u <ℤ v) right_is left_is h.below)

  pub at_zero : (x.numer ≡ pos 0) ↔ (x ≡ int (pos 0))
  at_zero = (numer_zero x, λ e. ap (λ y. y.numer) e ∙ int_numer (pos 0))

-- ---- the negative
pub abs-neg : (z : ℤ) → unsigned_abs (neg_ℤ z) ≡ unsigned_abs z
abs-neg (pos zero) = refl
abs-neg (pos (suc n)) = refl
abs-neg (negsuc n) = refl

pub neg_is : (x : ℚ) → frac (neg_ℤ x.numer) x.denom ≡ neg_ℚ x
unfolding neg_ℚ
neg_is x = refl

-- ---- the inverse
positive_size : (z : ℤ) → z ≢ pos 0 → 0 < unsigned_abs z
positive_size (pos zero) h = absurd (h refl)
positive_size (pos (suc n)) h = zero-lt-suc n
positive_size (negsuc n) h = zero-lt-suc n

pub size_positive : (x : ℚ) → x ≢ int (pos 0) → 0 < unsigned_abs x.numer
size_positive x h = positive_size x.numer (λ e. h (numer_zero x e))

turned_over : (n : ℤ) (d : ℕ) → frac (signed_like n (pos 1) d) (unsigned_abs n) ≡ upside_down n d
turned_over (pos n) d = refl
turned_over (negsuc n) d = refl

pub inverse_is : (x : ℚ) → frac (signed_like x.numer (pos 1) x.denom) (unsigned_abs x.numer) ≡ inv_ℚ x
unfolding inv_ℚ
inverse_is x = turned_over x.numer x.denom

pub inverse_coprime : (x : ℚ) → gcd (unsigned_abs (signed_like x.numer (pos 1) x.denom)) (unsigned_abs x.numer) ≡ 1
inverse_coprime x = ap (λ m. gcd m (unsigned_abs x.numer)) (signed_abs x.numer (pos 1) x.denom) ∙ gcd_comm x.denom (unsigned_abs x.numer) ∙ parts_coprime x

-- ---- the quotient of two integers
int_some : (n : ℤ) → n ≢ pos 0 → int n ≢ int (pos 0)
int_some n h e = h (sym (int_numer n) ∙ ap (λ x. x.numer) e ∙ int_numer (pos 0))

-- z/d with d > 0 times n gives m
pub quotient_from : (m n : ℤ) (z : ℤ) (d : ℕ) → n ≢ pos 0 → 0 < d → z *ℤ n ≡ m *ℤ pos d → frac z d ≡ quotient m n
unfolding quotient
quotient_from m n z d h some e =
    let over : frac z d *ℚ int n ≡ int m = frac-mul z d n 1 some (lit< tt) ∙ same_frac (z *ℤ n) (d * 1) m 1 (mul-pos some (lit< tt)) (lit< tt) (times_one (z *ℤ n) ∙ e ∙ ap (λ k. m *ℤ pos k) (sym (mul-one d))) in
    sym (*ℚ_one (frac z d)) ∙ ap (λ u. frac z d *ℚ u) (sym (*ℚ_inv (int n) (int_some n h))) ∙ sym (*ℚ_assoc (frac z d) (int n) (inv_ℚ (int n))) ∙ ap (λ u. u *ℚ inv_ℚ (int n)) over

-- m and n are g times P and Q, up to sign
module _ (P Q G : ℤ) where
  both : (M N : ℤ) → G *ℤ P ≡ M → G *ℤ Q ≡ N → P *ℤ N ≡ M *ℤ Q
  both M N e h = subst₂ (λ m n. P *ℤ n ≡ m *ℤ Q) e h (by_ring_ℤ (P ∷ Q ∷ G ∷ []) (search int_reads depth 30) (search int_reads depth 30) tt)

  right_negative : (M N : ℤ) → G *ℤ P ≡ M → G *ℤ Q ≡ N → neg_ℤ P *ℤ neg_ℤ N ≡ M *ℤ Q
  right_negative M N e h = subst₂ (λ m n. neg_ℤ P *ℤ neg_ℤ n ≡ m *ℤ Q) e h (by_ring_ℤ (P ∷ Q ∷ G ∷ []) (search int_reads depth 30) (search int_reads depth 30) tt)

  left_negative : (M N : ℤ) → G *ℤ P ≡ M → G *ℤ Q ≡ N → neg_ℤ P *ℤ N ≡ neg_ℤ M *ℤ Q
  left_negative M N e h = subst₂ (λ m n. neg_ℤ P *ℤ n ≡ neg_ℤ m *ℤ Q) e h (by_ring_ℤ (P ∷ Q ∷ G ∷ []) (search int_reads depth 30) (search int_reads depth 30) tt)

  both_negative : (M N : ℤ) → G *ℤ P ≡ M → G *ℤ Q ≡ N → P *ℤ neg_ℤ N ≡ neg_ℤ M *ℤ Q
  both_negative M N e h = subst₂ (λ m n. P *ℤ neg_ℤ n ≡ neg_ℤ m *ℤ Q) e h (by_ring_ℤ (P ∷ Q ∷ G ∷ []) (search int_reads depth 30) (search int_reads depth 30) tt)

-- the size p with the sign of m n, over q
signs_cross : (m n : ℤ) (g p q : ℕ) → g * p ≡ unsigned_abs m → g * q ≡ unsigned_abs n → signed_like m n p *ℤ n ≡ m *ℤ pos q
signs_cross (pos m) (pos n) g p q e h = both (pos p) (pos q) (pos g) (pos m) (pos n) (ap pos e) (ap pos h)
signs_cross (pos m) (negsuc n) g p q e h = right_negative (pos p) (pos q) (pos g) (pos m) (pos (suc n)) (ap pos e) (ap pos h)
signs_cross (negsuc m) (pos n) g p q e h = left_negative (pos p) (pos q) (pos g) (pos (suc m)) (pos n) (ap pos e) (ap pos h)
signs_cross (negsuc m) (negsuc n) g p q e h = both_negative (pos p) (pos q) (pos g) (pos (suc m)) (pos (suc n)) (ap pos e) (ap pos h)

-- what `new` computes from num and den: t over b
module _ (m n : ℤ) (g t b : ℕ) (some : n ≢ pos 0) (gs : g ≡ gcd (unsigned_abs m) (unsigned_abs n)) (ts : t ≡ unsigned_abs m / g) (bs : b ≡ unsigned_abs n / g) where
  t_is : t ≡ unsigned_abs m / gcd (unsigned_abs m) (unsigned_abs n)
  t_is = ts ∙ ap (λ k. unsigned_abs m / k) gs

  b_is : b ≡ unsigned_abs n / gcd (unsigned_abs m) (unsigned_abs n)
  b_is = bs ∙ ap (λ k. unsigned_abs n / k) gs

  pub bottom_positive : 0 < b
  bottom_positive = subst (λ k. 0 < k) (sym b_is) (part-positive (unsigned_abs m) (unsigned_abs n) (positive_size n some))

  pub terms_coprime : gcd t b ≡ 1
  terms_coprime = (λ i. gcd (t_is i) (b_is i)) ∙ gcd-parts (unsigned_abs m) (unsigned_abs n) (positive_size n some)

  pub value_is : frac (signed_like m n t) b ≡ quotient m n
  value_is = quotient_from m n (signed_like m n t) b some bottom_positive
      (signs_cross m n (gcd (unsigned_abs m) (unsigned_abs n)) t b
      (ap (λ k. gcd (unsigned_abs m) (unsigned_abs n) * k) t_is ∙ mul-div_cancel' (gcd (unsigned_abs m) (unsigned_abs n)) (gcd-divides_left (unsigned_abs m) (unsigned_abs n)))
      (ap (λ k. gcd (unsigned_abs m) (unsigned_abs n) * k) b_is ∙ mul-div_cancel' (gcd (unsigned_abs m) (unsigned_abs n)) (gcd-divides_right (unsigned_abs m) (unsigned_abs n))))

  parts_are : ((quotient m n).numer ≡ signed_like m n t) × ((quotient m n).denom ≡ b)
  parts_are = subst (λ x. (x.numer ≡ signed_like m n t) × (x.denom ≡ b)) value_is
      (frac_parts (signed_like m n t) b bottom_positive (ap (λ k. gcd k b) (signed_abs m n t) ∙ terms_coprime))

  size_is : unsigned_abs (quotient m n).numer ≡ t
  size_is = ap unsigned_abs parts_are.0 ∙ signed_abs m n t

  pub quotient_fits : t < 2 ^ 127 → b < 2 ^ 127 → FitsFrac (quotient m n)
  quotient_fits p q = (subst (λ k. k < 2 ^ 127) (sym size_is) p, subst (λ k. k < 2 ^ 127) (sym parts_are.1) q)

  pub quotient_wide : (2 ^ 127 ≤ t) ⊎ (2 ^ 127 ≤ b) → ¬ FitsFrac (quotient m n)
  quotient_wide w f = ⊎_elim
      (λ p. clash (2 ^ 127) t p (subst (λ k. k < 2 ^ 127) size_is f.0))
      (λ q. clash (2 ^ 127) b q (subst (λ k. k < 2 ^ 127) parts_are.1 f.1)) w

-- ---- what the code computed
pub neg_from : (x : ℚ) (z : ℤ) (d : ℕ) → z ≡ neg_ℤ x.numer → d ≡ x.denom → frac z d ≡ neg_ℚ x
neg_from x z d p q = (λ i. frac (p i) (q i)) ∙ neg_is x

pub inverse_from : (x : ℚ) (z : ℤ) (d : ℕ) → z ≡ signed_like x.numer (pos 1) x.denom → d ≡ unsigned_abs x.numer → frac z d ≡ inv_ℚ x
inverse_from x z d p q = (λ i. frac (p i) (q i)) ∙ inverse_is x

pub inverse_lowest : (x : ℚ) (z : ℤ) (d : ℕ) → z ≡ signed_like x.numer (pos 1) x.denom → d ≡ unsigned_abs x.numer → gcd (unsigned_abs z) d ≡ 1
inverse_lowest x z d p q = (λ i. gcd (unsigned_abs (p i)) (q i)) ∙ inverse_coprime x
