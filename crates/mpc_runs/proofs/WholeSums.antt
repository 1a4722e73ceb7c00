-- Sums and sizes of whole numbers, and sums and quotients of fractions over one denominator.
use Rattle.std.proofs.Common.{◌≡◌, ◌≢◌, ℕ, zero, suc, ◌+◌, ◌*◌, ◌<◌, ◌≤◌, ℤ, pos, negsuc, ◌+ℤ◌, ◌*ℤ◌, neg_ℤ, unsigned_abs, [], ◌∷◌, refl, sym, ◌∙◌, ap, subst, arith, mul-pos, mul-le-mul_right, mul-le-mul_left, le_trans, lit<, add-one, zero-lt-suc}
use Rattle.std.proofs.lemmas.Int.{ints, unsigned_abs-mul}
use Rattle.mpc_exact.specs.Rational.{frac, int, ◌+ℚ◌, ◌*ℚ◌, inv_ℚ}
use Rattle.mpc_exact.proofs.Rational.{same_frac, frac-add, frac-mul}
use Rattle.mpc_exact.proofs.School.{frac_inv}
use Rattle.mpc_exact.proofs.IntRing.{int_reads, by_ring_ℤ}
use Rattle.mpc_space.specs.Total.{total}
use Rattle.mpc_space.proofs.Total.{total-suc, total-zero}
use Rattle.mpc_runs.specs.WholeNumbers.{whole_total, turned}

pub whole_total-zero : (f : ℕ → ℤ) → whole_total zero f ≡ pos 0
unfolding whole_total
whole_total-zero f = refl

pub whole_total-suc : (n : ℕ) (f : ℕ → ℤ) → whole_total (suc n) f ≡ whole_total n f +ℤ f n
unfolding whole_total
whole_total-suc n f = refl

pub whole_total-next : (n : ℕ) (f : ℕ → ℤ) → whole_total (n + 1) f ≡ whole_total n f +ℤ f n
whole_total-next n f = ap (λ m. whole_total m f) (add-one n) ∙ whole_total-suc n f

zero_sum : (x y : ℤ) → x ≡ pos 0 → y ≡ pos 0 → x +ℤ y ≡ pos 0
zero_sum x y h k = omega (arith, ints)

pub whole_total-zeros : (n : ℕ) (f : ℕ → ℤ) → ((i : ℕ) → f i ≡ pos 0) → whole_total n f ≡ pos 0
whole_total-zeros zero f h = whole_total-zero f
whole_total-zeros (suc n) f h = whole_total-suc n f ∙ zero_sum (whole_total n f) (f n) (whole_total-zeros n f h) (h n)

-- ---- sizes
pub product_at_most : (u v : ℤ) (m n : ℕ) → unsigned_abs u ≤ m → unsigned_abs v ≤ n → unsigned_abs (u *ℤ v) ≤ m * n
product_at_most u v m n h k =
    subst (λ z. z ≤ m * n) (sym (unsigned_abs-mul u v)) (le_trans (mul-le-mul_right (unsigned_abs v) h) (mul-le-mul_left m k))

pub abs-sum : (u v : ℤ) → unsigned_abs (u +ℤ v) ≤ unsigned_abs u + unsigned_abs v
abs-sum u v = omega (arith, ints)

pub total_at_most : (n m : ℕ) (f : ℕ → ℤ) → ((i : ℕ) → i < n → unsigned_abs (f i) ≤ m) → unsigned_abs (whole_total n f) ≤ n * m
unfolding whole_total
total_at_most zero m f h = omega arith
total_at_most (suc n) m f h =
    let a : unsigned_abs (whole_total n f) ≤ n * m = total_at_most n m f (λ i l. h i (omega arith)) in
    let b : unsigned_abs (f n) ≤ m = h n (omega arith) in
    let c : unsigned_abs (whole_total n f +ℤ f n) ≤ unsigned_abs (whole_total n f) + unsigned_abs (f n) = abs-sum (whole_total n f) (f n) in
    omega arith

pub abs-negated : (a : ℤ) → unsigned_abs (neg_ℤ a) ≡ unsigned_abs a
abs-negated (pos zero) = refl
abs-negated (pos (suc n)) = refl
abs-negated (negsuc n) = refl

pub abs_turned : (q a : ℤ) → unsigned_abs (turned q a) ≡ unsigned_abs a
abs_turned (pos n) a = refl
abs_turned (negsuc n) a = abs-negated a

pub abs_some : (q : ℤ) → q ≢ pos 0 → 0 < unsigned_abs q
abs_some (pos zero) h = absurd (h refl)
abs_some (pos (suc n)) h = omega arith
abs_some (negsuc n) h = omega arith

-- ---- over one denominator
same_sum : (a c d : ℤ) → (a *ℤ d +ℤ c *ℤ d) *ℤ d ≡ (a +ℤ c) *ℤ (d *ℤ d)
same_sum a c d = by_ring_ℤ (a ∷ c ∷ d ∷ []) (search int_reads depth 30) (search int_reads depth 30) tt

pub frac_sum : (a c : ℤ) (d : ℕ) → 0 < d → frac a d +ℚ frac c d ≡ frac (a +ℤ c) d
frac_sum a c d h = frac-add a d c d h h ∙ same_frac (a *ℤ pos d +ℤ c *ℤ pos d) (d * d) (a +ℤ c) d (mul-pos h h) h (same_sum a c (pos d))

swapped_right : (a b d : ℤ) → (a *ℤ b) *ℤ d ≡ (a *ℤ b) *ℤ (d *ℤ pos 1)
swapped_right a b d = by_ring_ℤ (a ∷ b ∷ d ∷ []) (search int_reads depth 30) (search int_reads depth 30) tt

pub times_int : (a b : ℤ) (d : ℕ) → 0 < d → frac a d *ℚ int b ≡ frac (a *ℤ b) d
times_int a b d h = frac-mul a d b 1 h (lit< tt) ∙ same_frac (a *ℤ b) (d * 1) (a *ℤ b) d (mul-pos h (lit< tt)) h (swapped_right a b (pos d))

pub zero_over : (d : ℕ) → 0 < d → frac (pos 0) d ≡ int (pos 0)
zero_over d h = same_frac (pos 0) d (pos 0) 1 h (lit< tt) (nought (pos d))
  where
    nought : (d : ℤ) → pos 0 *ℤ pos 1 ≡ pos 0 *ℤ d
    nought d = by_ring_ℤ (d ∷ []) (search int_reads depth 30) (search int_reads depth 30) tt

pub total_over : (n d : ℕ) (f : ℕ → ℤ) → 0 < d → total n (λ i. frac (f i) d) ≡ frac (whole_total n f) d
unfolding whole_total
total_over zero d f h = total-zero (λ i. frac (f i) d) ∙ sym (zero_over d h)
total_over (suc n) d f h = total-suc n (λ i. frac (f i) d) ∙ ap (λ u. u +ℚ frac (f n) d) (total_over n d f h) ∙ frac_sum (whole_total n f) (f n) d h

moved_across : (a d q : ℤ) → (a *ℤ d) *ℤ q ≡ a *ℤ (d *ℤ q)
moved_across a d q = by_ring_ℤ (a ∷ d ∷ q ∷ []) (search int_reads depth 30) (search int_reads depth 30) tt

moved_across_negative : (a d q : ℤ) → (a *ℤ neg_ℤ d) *ℤ q ≡ neg_ℤ a *ℤ (d *ℤ q)
moved_across_negative a d q = by_ring_ℤ (a ∷ d ∷ q ∷ []) (search int_reads depth 30) (search int_reads depth 30) tt

-- a quotient of two over the same denominator
pub ratio_is : (a q : ℤ) (d : ℕ) → 0 < d → q ≢ pos 0 → frac a d *ℚ inv_ℚ (frac q d) ≡ frac (turned q a) (unsigned_abs q)
ratio_is a (pos zero) d h some = absurd (some refl)
ratio_is a (pos (suc c)) d h some =
    ap (λ u. frac a d *ℚ u) (frac_inv (pos (suc c)) d some h) ∙ frac-mul a d (pos d) (suc c) h (zero-lt-suc c)
    ∙ same_frac (a *ℤ pos d) (d * suc c) a (suc c) (mul-pos h (zero-lt-suc c)) (zero-lt-suc c) (moved_across a (pos d) (pos (suc c)))
ratio_is a (negsuc c) d h some =
    ap (λ u. frac a d *ℚ u) (frac_inv (negsuc c) d some h) ∙ frac-mul a d (neg_ℤ (pos d)) (suc c) h (zero-lt-suc c)
    ∙ same_frac (a *ℤ neg_ℤ (pos d)) (d * suc c) (neg_ℤ a) (suc c) (mul-pos h (zero-lt-suc c)) (zero-lt-suc c) (moved_across_negative a (pos d) (pos (suc c)))
