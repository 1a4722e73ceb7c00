-- Fractions n / d by the school rules: differences, inverses, quotients, and whole numbers over 1.
use Rattle.std.proofs.Common.{◌≡◌, ◌≢◌, ℕ, zero, suc, unsigned_abs, ◌*◌, ◌<◌, ◌≤◌, [], ◌∷◌, ℤ, pos, negsuc, ◌+ℤ◌, ◌-ℤ◌, ◌*ℤ◌, neg_ℤ, ◌≤ℤ◌, ◌<ℤ◌, ◌↔◌, refl, sym, ◌∙◌, ap, subst₂, arith, mul-pos, zero-lt-suc, lit<}
use Rattle.std.proofs.lemmas.Int.{ints}
use Rattle.mpc_exact.specs.Gcd.{gcd_one}
use Rattle.mpc_exact.specs.Rational.{ℚ, frac, int, ◌+ℚ◌, ◌-ℚ◌, ◌*ℚ◌, ◌/ℚ◌, neg_ℚ, inv_ℚ, upside_down, quotient, ◌≤ℚ◌, ◌<ℚ◌, frac_parts}
use Rattle.mpc_exact.proofs.IntRing.{int_reads, by_ring_ℤ}
use Rattle.mpc_exact.proofs.Rational.{frac-add, frac-mul, frac-neg, same_frac, frac_same, numer_zero}
use Rattle.mpc_exact.proofs.RationalOrder.{le_frac, frac_le, lt_frac, frac_lt, one_last}
use Rattle.mpc_exact.proofs.RationalRing.{reads, by_ring}
use Rattle.mpc_exact.proofs.OrderTheorems.{inv_unique, *ℚ-/ℚ}

minus_cross : (a b c d : ℤ) → a *ℤ d +ℤ neg_ℤ c *ℤ b ≡ a *ℤ d +ℤ neg_ℤ (c *ℤ b)
minus_cross a b c d = by_ring_ℤ (a ∷ b ∷ c ∷ d ∷ []) (search int_reads depth 30) (search int_reads depth 30) tt

plus_neg : (m n : ℤ) → m +ℤ neg_ℤ n ≡ m -ℤ n
plus_neg m n = omega (arith, ints)

pub frac-sub : (a : ℤ) (b : ℕ) (c : ℤ) (d : ℕ) → 0 < b → 0 < d → frac a b -ℚ frac c d ≡ frac (a *ℤ pos d -ℤ c *ℤ pos b) (b * d)
frac-sub a b c d p q =
    ap (λ u. frac a b +ℚ u) (frac-neg c d q) ∙ frac-add a b (neg_ℤ c) d p q
    ∙ ap (λ n. frac n (b * d)) (minus_cross a (pos b) c (pos d) ∙ plus_neg (a *ℤ pos d) (c *ℤ pos b))

-- the sign of a divisor goes to the dividend
pub frac_inv : (c : ℤ) (d : ℕ) → c ≢ pos 0 → 0 < d → inv_ℚ (frac c d) ≡ upside_down c d
frac_inv (pos zero) d h q = absurd (h refl)
frac_inv (pos (suc c)) d h q = sym (inv_unique (frac (pos (suc c)) d) (frac (pos d) (suc c)) (frac-mul (pos (suc c)) d (pos d) (suc c) q (zero-lt-suc c) ∙ same_frac (pos (suc c) *ℤ pos d) (d * suc c) (pos 1) 1 (mul-pos q (zero-lt-suc c)) (lit< tt) (turned (pos (suc c)) (pos d))))
  where
    turned : (n d : ℤ) → (n *ℤ d) *ℤ pos 1 ≡ pos 1 *ℤ (d *ℤ n)
    turned n d = by_ring_ℤ (n ∷ d ∷ []) (search int_reads depth 30) (search int_reads depth 30) tt
frac_inv (negsuc c) d h q = sym (inv_unique (frac (negsuc c) d) (frac (neg_ℤ (pos d)) (suc c)) (frac-mul (negsuc c) d (neg_ℤ (pos d)) (suc c) q (zero-lt-suc c) ∙ same_frac (negsuc c *ℤ neg_ℤ (pos d)) (d * suc c) (pos 1) 1 (mul-pos q (zero-lt-suc c)) (lit< tt) (turned (pos (suc c)) (pos d))))
  where
    turned : (n d : ℤ) → (neg_ℤ n *ℤ neg_ℤ d) *ℤ pos 1 ≡ pos 1 *ℤ (d *ℤ n)
    turned n d = by_ring_ℤ (n ∷ d ∷ []) (search int_reads depth 30) (search int_reads depth 30) tt

pub frac-div_positive : (a : ℤ) (b : ℕ) (c d : ℕ) → 0 < b → 0 < c → 0 < d → frac a b /ℚ frac (pos c) d ≡ frac (a *ℤ pos d) (b * c)
frac-div_positive a b zero d p q r = absurd (omega arith)
frac-div_positive a b (suc c) d p q r = ap (λ u. frac a b *ℚ u) (frac_inv (pos (suc c)) d (λ e. omega (arith, ints)) r) ∙ frac-mul a b (pos d) (suc c) p (zero-lt-suc c)

pub frac-div_negative : (a : ℤ) (b : ℕ) (c d : ℕ) → 0 < b → 0 < d → frac a b /ℚ frac (negsuc c) d ≡ frac (a *ℤ neg_ℤ (pos d)) (b * suc c)
frac-div_negative a b c d p r = ap (λ u. frac a b *ℚ u) (frac_inv (negsuc c) d (λ e. omega (arith, ints)) r) ∙ frac-mul a b (neg_ℤ (pos d)) (suc c) p (zero-lt-suc c)

expanded : (a b k : ℤ) → (a *ℤ k) *ℤ b ≡ a *ℤ (b *ℤ k)
expanded a b k = by_ring_ℤ (a ∷ b ∷ k ∷ []) (search int_reads depth 30) (search int_reads depth 30) tt

-- a common factor goes out
pub frac_expand : (a : ℤ) (b k : ℕ) → 0 < b → 0 < k → frac (a *ℤ pos k) (b * k) ≡ frac a b
frac_expand a b k p q = same_frac (a *ℤ pos k) (b * k) a b (mul-pos p q) p (expanded a (pos b) (pos k))

swapped : (a b : ℤ) → (b *ℤ a) *ℤ pos 1 ≡ a *ℤ b
swapped a b = by_ring_ℤ (a ∷ b ∷ []) (search int_reads depth 30) (search int_reads depth 30) tt

-- d times n / d is n
pub frac_times : (n : ℤ) (d : ℕ) → 0 < d → int (pos d) *ℚ frac n d ≡ int n
frac_times n d p = frac-mul (pos d) 1 n d (lit< tt) p ∙ same_frac (pos d *ℤ n) (1 * d) n 1 (mul-pos (lit< tt) p) (lit< tt) (swapped_one n d)
  where
    swapped_one : (n : ℤ) (d : ℕ) → (pos d *ℤ n) *ℤ pos 1 ≡ n *ℤ pos (1 * d)
    swapped_one n d = swapped n (pos d) ∙ ap (λ m. n *ℤ pos m) (omega arith)

-- the half, the third, .. : d times it is 1
pub frac_one : (d : ℕ) → 0 < d → int (pos d) *ℚ frac (pos 1) d ≡ int (pos 1)
frac_one d p = frac_times (pos 1) d p

-- ---- whole numbers
pub int-neg : (n : ℤ) → int (neg_ℤ n) ≡ neg_ℚ (int n)
int-neg n = sym (frac-neg n 1 (lit< tt))

int_sub_cross : (m n : ℤ) → m *ℤ pos 1 -ℤ n *ℤ pos 1 ≡ m -ℤ n
int_sub_cross m n = omega (arith, ints)

pub int-sub : (m n : ℤ) → int (m -ℤ n) ≡ int m -ℚ int n
int-sub m n = sym (frac-sub m 1 n 1 (lit< tt) (lit< tt) ∙ ap (λ k. frac k 1) (int_sub_cross m n))

pub int_parts : (n : ℤ) → ((int n).numer ≡ n) × ((int n).denom ≡ 1)
int_parts n = frac_parts n 1 (lit< tt) (gcd_one (unsigned_abs n))

pub int_same : (m n : ℤ) → int m ≡ int n → m ≡ n
int_same m n e = sym (one_last m) ∙ frac_same m 1 n 1 (lit< tt) (lit< tt) e ∙ one_last n

pub int_le : (m n : ℤ) → (int m ≤ℚ int n) ↔ (m ≤ℤ n)
int_le m n = (
  λ h. subst₂ (λ u v. u ≤ℤ v) (one_last m) (one_last n) (frac_le m 1 n 1 (lit< tt) (lit< tt) h),
  λ h. le_frac m 1 n 1 (lit< tt) (lit< tt) (subst₂ (λ u v. u ≤ℤ v) (sym (one_last m)) (sym (one_last n)) h),
)

pub int_lt : (m n : ℤ) → (int m <ℚ int n) ↔ (m <ℤ n)
int_lt m n = (
  λ h. subst₂ (λ u v. u <ℤ v) (one_last m) (one_last n) (frac_lt m 1 n 1 (lit< tt) (lit< tt) h),
  λ h. lt_frac m 1 n 1 (lit< tt) (lit< tt) (subst₂ (λ u v. u <ℤ v) (sym (one_last m)) (sym (one_last n)) h),
)

pos_le : (m n : ℕ) → pos m ≤ℤ pos n → m ≤ n
pos_le m n h = omega (arith, ints)

le_pos : (m n : ℕ) → m ≤ n → pos m ≤ℤ pos n
le_pos m n h = omega (arith, ints)

pos_lt : (m n : ℕ) → pos m <ℤ pos n → m < n
pos_lt m n h = omega (arith, ints)

lt_pos : (m n : ℕ) → m < n → pos m <ℤ pos n
lt_pos m n h = omega (arith, ints)

pub natural_le : (m n : ℕ) → (int (pos m) ≤ℚ int (pos n)) ↔ (m ≤ n)
natural_le m n = (λ h. pos_le m n ((int_le (pos m) (pos n)).0 h), λ h. (int_le (pos m) (pos n)).1 (le_pos m n h))

pub natural_lt : (m n : ℕ) → (int (pos m) <ℚ int (pos n)) ↔ (m < n)
natural_lt m n = (λ h. pos_lt m n ((int_lt (pos m) (pos n)).0 h), λ h. (int_lt (pos m) (pos n)).1 (lt_pos m n h))

pub int_not_zero : (n : ℤ) → n ≢ pos 0 → int n ≢ int (pos 0)
int_not_zero n h e = h (int_same n (pos 0) e)

-- ---- m divided by n
pub quotient_is : (m n : ℤ) → n ≢ pos 0 → int n *ℚ quotient m n ≡ int m
unfolding quotient
quotient_is m n h = *ℚ-/ℚ (int m) (int n) (int_not_zero n h)

over_zero : (d : ℕ) → frac (pos d) 0 ≡ int (pos 0)
unfolding frac
over_zero d = numer_zero (frac (pos d) 0) refl

pub inv_zero : inv_ℚ (int (pos 0)) ≡ int (pos 0)
unfolding inv_ℚ
inv_zero = ap (λ n. upside_down n (int (pos 0)).denom) (int_parts (pos 0)).0 ∙ over_zero (int (pos 0)).denom

pub /ℚ_zero : (x : ℚ) → x /ℚ int (pos 0) ≡ int (pos 0)
/ℚ_zero x = ap (λ u. x *ℚ u) inv_zero ∙ by_ring (x ∷ []) (search reads depth 30) (search reads depth 30) tt

pub quotient_zero : (m : ℤ) → quotient m (pos 0) ≡ int (pos 0)
unfolding quotient
quotient_zero m = /ℚ_zero (int m)

pub quotient_positive : (m : ℤ) (d : ℕ) → 0 < d → quotient m (pos d) ≡ frac m d
unfolding quotient
quotient_positive m d p = frac-div_positive m 1 d 1 (lit< tt) p (lit< tt) ∙ λ i. frac (one_last m i) (one_times d i)
  where
    one_times : (d : ℕ) → 1 * d ≡ d
    one_times d = omega arith

minus_one : (m : ℤ) → m *ℤ neg_ℤ (pos 1) ≡ neg_ℤ m
minus_one m = omega (arith, ints)

pub quotient_negative : (m : ℤ) (d : ℕ) → quotient m (negsuc d) ≡ frac (neg_ℤ m) (suc d)
unfolding quotient
quotient_negative m d = frac-div_negative m 1 d 1 (lit< tt) (lit< tt) ∙ λ i. frac (minus_one m i) (one_times (suc d) i)
  where
    one_times : (d : ℕ) → 1 * d ≡ d
    one_times d = omega arith
