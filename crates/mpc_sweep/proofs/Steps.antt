-- One step of a sweep, and one of the stated elimination where the pivot stands in its own row.
use Rattle.std.proofs.Common.{◌≡◌, ◌≢◌, ℕ, zero, suc, ◌-◌, ◌<◌, Bool, true, false, cond, eqb, ℤ, pos, negsuc, unsigned_abs, Some, None, refl, sym, ◌∙◌, ap, arith, ◌⊎◌, inl, inr, eq-eqb, ne_eqb}
use Rattle.std.proofs.lemmas.Bool.{cond-true, cond-false, cases_eq, eqb-true}
use Rattle.mpc_exact.specs.Rational.{ℚ, int, ◌*ℚ◌, ◌-ℚ◌, ◌/ℚ◌}
use Rattle.mpc_exact.proofs.Rational.{numer_zero}
use Rattle.mpc_linear.specs.Elimination.{Table, is_zero, first_nonzero, exchanged_row, exchanged, reduced, after_column, eliminated, pivot_row}

-- ---- the reduction
pub reduced-pivot : (c : ℕ) (t : Table) (i j : ℕ) → i ≡ c → reduced c t i j ≡ t c j /ℚ t c c
unfolding reduced
reduced-pivot c t i j e = cond-true (eqb i c) (t c j /ℚ t c c) (t i j -ℚ t i c *ℚ (t c j /ℚ t c c)) (eq-eqb i c e)

pub reduced-other : (c : ℕ) (t : Table) (i j : ℕ) → i ≢ c → reduced c t i j ≡ t i j -ℚ t i c *ℚ (t c j /ℚ t c c)
unfolding reduced
reduced-other c t i j e = cond-false (eqb i c) (t c j /ℚ t c c) (t i j -ℚ t i c *ℚ (t c j /ℚ t c c)) (ne_eqb i c e)

-- ---- a row that changes places with itself
row-itself : (c i : ℕ) → exchanged_row c c i ≡ i
unfolding exchanged_row
row-itself c i = by (cases_eq i c)
  where
    by : (i ≡ c) ⊎ (i ≡ c → ⊥) → cond (eqb i c) c (cond (eqb i c) c i) ≡ i
    by (inl e) = cond-true (eqb i c) c (cond (eqb i c) c i) (eq-eqb i c e) ∙ sym e
    by (inr e) = cond-false (eqb i c) c (cond (eqb i c) c i) (ne_eqb i c e) ∙ cond-false (eqb i c) c i (ne_eqb i c e)

pub exchanged-itself : (c : ℕ) (t : Table) → exchanged c c t ≡ t
unfolding exchanged
exchanged-itself c t = λ m i j. t (row-itself c i m) j

-- ---- the pivot
size_zero : (z : ℤ) → unsigned_abs z ≡ 0 → z ≡ pos 0
size_zero (pos n) e = ap pos e
size_zero (negsuc n) e = cc

zero_test : (x : ℚ) → x ≡ int (pos 0) → is_zero x ≡ true
unfolding Rattle.mpc_exact.specs.Rational.frac Rattle.mpc_exact.specs.Gcd.gcd
zero_test x e = ap is_zero e

first_here : (t : Table) (c count : ℕ) → t c c ≢ int (pos 0) → first_nonzero t c c (suc count) ≡ Some c
unfolding first_nonzero
first_here t c count some = by (is_zero (t c c)) refl
  where
    by : (b : Bool) → is_zero (t c c) ≡ b → cond b (first_nonzero t c (suc c) count) (Some c) ≡ Some c
    by true e = absurd (some (numer_zero (t c c) (size_zero (t c c).numer (eqb-true (unsigned_abs (t c c).numer) 0 e))))
    by false e = refl

pub pivot_here : (n c : ℕ) (t : Table) → c < n → t c c ≢ int (pos 0) → pivot_row n t c ≡ Some c
unfolding pivot_row
pivot_here n c t h some = let e : n - c ≡ suc (n - suc c) = omega arith in ap (first_nonzero t c c) e ∙ first_here t c (n - suc c) some

only_row : (t : Table) (c : ℕ) → t c c ≡ int (pos 0) → first_nonzero t c c 1 ≡ None
unfolding first_nonzero
only_row t c e = cond-true (is_zero (t c c)) None (Some c) (zero_test (t c c) e)

-- the last column
pub no_pivot : (n c : ℕ) (t : Table) → n ≡ suc c → t c c ≡ int (pos 0) → pivot_row n t c ≡ None
unfolding pivot_row
no_pivot n c t h none = let e : n - c ≡ 1 = omega arith in ap (first_nonzero t c c) e ∙ only_row t c none

-- ---- the columns of the elimination
pub eliminated-zero : (n : ℕ) (t : Table) → eliminated n t zero ≡ t
unfolding eliminated
eliminated-zero n t = refl

pub eliminated-suc : (n c : ℕ) (t : Table) → c < n → eliminated n t c c c ≢ int (pos 0) → eliminated n t (suc c) ≡ reduced c (eliminated n t c)
unfolding eliminated after_column
eliminated-suc n c t h some =
    ap (after_column c (eliminated n t c)) (pivot_here n c (eliminated n t c) h some)
    ∙ ap (reduced c) (exchanged-itself c (eliminated n t c))
