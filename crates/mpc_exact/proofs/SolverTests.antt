-- Each solver on a true statement, and its decision on a false one, which is to refuse.
use Rattle.std.proofs.Common.{◌≡◌, ◌≢◌, ◌*◌, true, false, ℤ, pos, negsuc, ◌+ℤ◌, ◌*ℤ◌, neg_ℤ, [], ◌∷◌, lit<, refl}
use Rattle.mpc_exact.specs.Rational.{ℚ, frac, int, ◌+ℚ◌, ◌-ℚ◌, ◌*ℚ◌, ◌/ℚ◌, neg_ℚ, inv_ℚ, min_ℚ, max_ℚ, quotient, ◌≤ℚ◌, ◌<ℚ◌, IsNonneg}
use Rattle.mpc_exact.specs.Gcd.{gcd, lcm}
use Rattle.mpc_exact.specs.Denominator.{common_denom}
use Rattle.mpc_exact.proofs.Ring.{var, ◌⊕◌, ◌⊗◌, ◌⊖◌, agree}
use Rattle.mpc_exact.proofs.IntRing.{int_reads, by_ring_ℤ}
use Rattle.mpc_exact.proofs.Rational.{*ℚ_inv}
use Rattle.mpc_exact.proofs.RationalRing.{by_ring, by_equation, by_equations, reads}
use Rattle.mpc_exact.proofs.RationalOrder.{gap, strict_gap, nonneg-add, nonneg-mul, nonneg_int, nonneg_square, positive-add, positive_int, by_le, by_lt, by_conflict, by_le_times, by_lt_times}
use Rattle.mpc_exact.proofs.Linear.{linear_le, linear_lt, linear_false, linear_le_with, linear_lt_with, linear_false_with, claims, none, le, lt, eq, is_refuted, contradicts}

-- ---- values
half_is : frac (pos 1) 2 ≡ frac (pos 21) 42
unfolding frac gcd
half_is = refl

third_is : frac (negsuc 170141183460469231731687303715884105726) (3 * 170141183460469231731687303715884105727) ≡ frac (negsuc 0) 3
unfolding frac gcd
third_is = refl

sum_is : frac (pos 1) 2 +ℚ frac (pos 1) 3 ≡ frac (pos 5) 6
unfolding frac gcd ◌+ℚ◌
sum_is = refl

product_is : frac (negsuc 1) 3 *ℚ frac (pos 9) 4 ≡ frac (negsuc 2) 2
unfolding frac gcd ◌*ℚ◌
product_is = refl

inverse_is : inv_ℚ (frac (negsuc 1) 6) ≡ frac (negsuc 2) 1
unfolding frac gcd inv_ℚ
inverse_is = refl

lcm_is : lcm 12 18 ≡ 36
unfolding lcm gcd
lcm_is = refl

lesser_is : min_ℚ (frac (pos 1) 2) (frac (pos 1) 3) ≡ frac (pos 1) 3
unfolding frac gcd min_ℚ
lesser_is = refl

greater_is : max_ℚ (frac (pos 1) 2) (frac (pos 1) 3) ≡ frac (pos 1) 2
unfolding frac gcd max_ℚ
greater_is = refl

quotient_is : quotient (pos 6) (negsuc 3) ≡ frac (negsuc 2) 2
unfolding frac gcd quotient inv_ℚ ◌*ℚ◌
quotient_is = refl

common_is : common_denom (frac (pos 1) 4 ∷ frac (pos 5) 6 ∷ frac (pos 7) 1 ∷ []) ≡ 12
unfolding frac gcd lcm common_denom
common_is = refl

-- ---- identities of integers
brahmagupta_int : (a b c d : ℤ) → (a *ℤ d +ℤ neg_ℤ (b *ℤ c)) *ℤ (a *ℤ d +ℤ neg_ℤ (b *ℤ c)) +ℤ (a *ℤ c +ℤ b *ℤ d) *ℤ (a *ℤ c +ℤ b *ℤ d) ≡ (a *ℤ a +ℤ b *ℤ b) *ℤ (c *ℤ c +ℤ d *ℤ d)
brahmagupta_int a b c d = by_ring_ℤ (a ∷ b ∷ c ∷ d ∷ []) (search int_reads depth 30) (search int_reads depth 30) tt

-- ---- identities of fractions
trinomial : (a b c : ℚ) → (a +ℚ b +ℚ c) *ℚ (a +ℚ b +ℚ c) ≡ a *ℚ a +ℚ b *ℚ b +ℚ c *ℚ c +ℚ int (pos 2) *ℚ (a *ℚ b +ℚ b *ℚ c +ℚ a *ℚ c)
trinomial a b c = by_ring (a ∷ b ∷ c ∷ []) (search reads depth 30) (search reads depth 30) tt

brahmagupta : (a b c d : ℚ) → (a *ℚ d -ℚ b *ℚ c) *ℚ (a *ℚ d -ℚ b *ℚ c) +ℚ (a *ℚ c +ℚ b *ℚ d) *ℚ (a *ℚ c +ℚ b *ℚ d) ≡ (a *ℚ a +ℚ b *ℚ b) *ℚ (c *ℚ c +ℚ d *ℚ d)
brahmagupta a b c d = by_ring (a ∷ b ∷ c ∷ d ∷ []) (search reads depth 30) (search reads depth 30) tt

-- (a + b)² is not a² + b²
no_trinomial : agree ((var 0 ⊕ var 1) ⊗ (var 0 ⊕ var 1)) (var 0 ⊗ var 0 ⊕ var 1 ⊗ var 1) ≡ false
no_trinomial = refl

-- nor is a - b the same as b - a
no_swap : agree (var 0 ⊖ var 1) (var 1 ⊖ var 0) ≡ false
no_swap = refl

-- a pivot p with its inverse i: p x + y ≡ b is solved for x
pivot : (p i x y b : ℚ) → p *ℚ i ≡ int (pos 1) → p *ℚ x +ℚ y ≡ b → x ≡ i *ℚ (b -ℚ y)
pivot p i x y b e h = by_equations (neg_ℚ x) i e h (by_ring (p ∷ i ∷ x ∷ y ∷ b ∷ []) (search reads depth 30) (search reads depth 30) tt)

over_itself : (a b : ℚ) → b ≢ int (pos 0) → (a *ℚ b) /ℚ b ≡ a
over_itself a b h = by_equation a (*ℚ_inv b h) (by_ring (a ∷ b ∷ inv_ℚ b ∷ []) (search reads depth 30) (search reads depth 30) tt)

-- ---- inequalities by a combination that is named
weighted : (x y : ℚ) → (x +ℚ int (pos 2) *ℚ y) ≤ℚ int (pos 4) → (int (pos 3) *ℚ x) ≤ℚ (int (pos 5) +ℚ y) → (int (pos 7) *ℚ x) ≤ℚ int (pos 14)
weighted x y h k = by_le (x ∷ y ∷ []) (nonneg-add (gap h) (nonneg-mul (nonneg_int 2) (gap k))) (search reads depth 30) (search reads depth 30) tt

strictly : (x y : ℚ) → x <ℚ y → (int (pos 2) *ℚ x) <ℚ (x +ℚ y)
strictly x y h = by_lt (x ∷ y ∷ []) (strict_gap h) (search reads depth 30) (search reads depth 30) tt

convex : (t x y m : ℚ) → IsNonneg t → t ≤ℚ int (pos 1) → x ≤ℚ m → y ≤ℚ m → (t *ℚ x +ℚ (int (pos 1) -ℚ t) *ℚ y) ≤ℚ m
convex t x y m ht h hx hy = by_le (t ∷ x ∷ y ∷ m ∷ []) (nonneg-add (nonneg-mul ht (gap hx)) (nonneg-mul (gap h) (gap hy))) (search reads depth 30) (search reads depth 30) tt

two_products : (a b : ℚ) → (int (pos 2) *ℚ (a *ℚ b)) ≤ℚ (a *ℚ a +ℚ b *ℚ b)
two_products a b = by_le (a ∷ b ∷ []) (nonneg_square (a -ℚ b)) (search reads depth 30) (search reads depth 30) tt

conflict : (x y z : ℚ) → x ≤ℚ y → y ≤ℚ (z -ℚ int (pos 1)) → z ≤ℚ x → ⊥
conflict x y z h k l = by_conflict (x ∷ y ∷ z ∷ []) (positive-add (positive_int 1 (lit< tt)) (nonneg-add (gap h) (nonneg-add (gap k) (gap l)))) (search reads depth 30) (search reads depth 30) tt

divided : (x y : ℚ) → (x +ℚ int (pos 2) *ℚ y) ≤ℚ int (pos 4) → (int (pos 3) *ℚ x) ≤ℚ (int (pos 5) +ℚ y) → x ≤ℚ int (pos 2)
divided x y h k = by_le_times (x ∷ y ∷ []) (positive_int 7 (lit< tt)) (nonneg-add (gap h) (nonneg-mul (nonneg_int 2) (gap k))) (search reads depth 30) (search reads depth 30) tt

divided_strictly : (x y : ℚ) → (int (pos 2) *ℚ x) <ℚ (int (pos 2) *ℚ y) → x <ℚ y
divided_strictly x y h = by_lt_times (x ∷ y ∷ []) (positive_int 2 (lit< tt)) (strict_gap h) (search reads depth 30) (search reads depth 30) tt

-- ---- linear inequalities, their multipliers found
chain : (x y z : ℚ) → x ≤ℚ y → y <ℚ z → x <ℚ z
chain x y z h k = linear_lt (x ∷ y ∷ z ∷ []) (le h (lt k none)) (search claims depth 40) tt

found : (x y : ℚ) → (x +ℚ int (pos 2) *ℚ y) ≤ℚ int (pos 4) → (int (pos 3) *ℚ x) ≤ℚ (int (pos 5) +ℚ y) → x ≤ℚ int (pos 2)
found x y h k = linear_le (x ∷ y ∷ []) (le h (le k none)) (search claims depth 40) tt

infeasible : (x y z : ℚ) → x ≤ℚ y → y ≤ℚ (z -ℚ int (pos 1)) → z ≤ℚ x → ⊥
infeasible x y z h k l = linear_false (x ∷ y ∷ z ∷ []) (le h (le k (le l none))) (search claims depth 40) tt

-- with equations, and products as unknowns
mixed : (x y s : ℚ) → s ≡ x *ℚ y +ℚ int (pos 1) → (x *ℚ y) ≤ℚ int (pos 3) → (int (pos 2) *ℚ s) ≤ℚ int (pos 9)
mixed x y s e h = linear_le (x ∷ y ∷ s ∷ []) (eq e (le h none)) (search claims depth 40) tt

-- six hypotheses in four unknowns
six : (a b c d : ℚ) → a ≤ℚ b → b ≤ℚ (c +ℚ d) → (c +ℚ c) ≤ℚ a → (d +ℚ d +ℚ d) ≤ℚ b → int (pos 0) ≤ℚ c → int (pos 0) ≤ℚ d → a ≤ℚ int (pos 0)
six a b c d h₁ h₂ h₃ h₄ h₅ h₆ = linear_le (a ∷ b ∷ c ∷ d ∷ []) (le h₁ (le h₂ (le h₃ (le h₄ (le h₅ (le h₆ none)))))) (search claims depth 60) tt

-- ---- the same with the multipliers given
given : (x y : ℚ) → (x +ℚ int (pos 2) *ℚ y) ≤ℚ int (pos 4) → (int (pos 3) *ℚ x) ≤ℚ (int (pos 5) +ℚ y) → x ≤ℚ int (pos 2)
given x y h k = linear_le_with (x ∷ y ∷ []) (7 ∷ 1 ∷ 2 ∷ []) (le h (le k none)) (search claims depth 40) tt

given_strictly : (x y z : ℚ) → x ≤ℚ y → y <ℚ z → x <ℚ z
given_strictly x y z h k = linear_lt_with (x ∷ y ∷ z ∷ []) (1 ∷ 1 ∷ 1 ∷ []) (le h (lt k none)) (search claims depth 40) tt

given_infeasible : (x y : ℚ) → x <ℚ y → y ≤ℚ x → ⊥
given_infeasible x y h k = linear_false_with (x ∷ y ∷ []) (1 ∷ 1 ∷ []) (lt h (le k none)) (search claims depth 40) tt

-- ---- what is false is not refuted: x ≤ y and y ≤ x hold together, as do 0 ≤ x and 0 ≤ y, and no multipliers show else
both_ways : is_refuted ((false, var 1 ⊖ var 0) ∷ (false, var 0 ⊖ var 1) ∷ []) ≡ false
both_ways = refl

quadrant : is_refuted ((false, var 0) ∷ (false, var 1) ∷ []) ≡ false
quadrant = refl

-- x < y and y ≤ x don't
strict_both_ways : is_refuted ((true, var 1 ⊖ var 0) ∷ (false, var 0 ⊖ var 1) ∷ []) ≡ true
strict_both_ways = refl

-- multipliers that don't cancel the unknowns, and those that leave out the strict row
wrong_multipliers : contradicts (1 ∷ 2 ∷ []) ((true, var 1 ⊖ var 0) ∷ (false, var 0 ⊖ var 1) ∷ []) ≡ false
wrong_multipliers = refl

no_multipliers : contradicts (0 ∷ 0 ∷ []) ((true, var 1 ⊖ var 0) ∷ (false, var 0 ⊖ var 1) ∷ []) ≡ false
no_multipliers = refl
