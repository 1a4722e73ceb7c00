-- The first entry of a column that isn't 0.
use Rattle.std.proofs.Common.{◌≡◌, ◌≢◌, ℕ, zero, suc, ◌+◌, ◌-◌, ◌<◌, ◌≤◌, Bool, true, false, cond, ℤ, pos, negsuc, unsigned_abs, Option, Some, None, refl, ◌∙◌, ap, subst, arith, ◌⊎◌, inl, inr, ⊎_elim}
use Rattle.std.proofs.lemmas.Bool.{cases_eq, both_ways, eqb-true}
use Rattle.mpc_exact.specs.Rational.{ℚ, int}
use Rattle.mpc_exact.proofs.Rational.{numer_zero}
use Rattle.mpc_linear.specs.Elimination.{Table, is_zero, first_nonzero, pivot_row}

int_from_size : (z : ℤ) → unsigned_abs z ≡ 0 → z ≡ pos 0
int_from_size (pos n) e = ap pos e
int_from_size (negsuc n) e = cc

pub zero_from : (x : ℚ) → is_zero x ≡ true → x ≡ int (pos 0)
zero_from x h = numer_zero x (int_from_size x.numer (eqb-true (unsigned_abs x.numer) 0 h))

pub zero_to : (x : ℚ) → x ≡ int (pos 0) → is_zero x ≡ true
unfolding Rattle.mpc_exact.specs.Rational.frac Rattle.mpc_exact.specs.Gcd.gcd
zero_to x e = ap is_zero e

pub nonzero_from : (x : ℚ) → is_zero x ≡ false → x ≢ int (pos 0)
nonzero_from x h e = both_ways (is_zero x) h (zero_to x e)

-- p is the first of so many rows from i on with an entry that isn't 0
pub record IsFirst (t : Table) (j i count p : ℕ) : Type 0 where
  pub from : i ≤ p
  pub below : p < i + count
  pub some : t p j ≢ int (pos 0)
  pub before : (k : ℕ) → i ≤ k → k < p → t k j ≡ int (pos 0)

abbrev pub FirstIs : Table → ℕ → ℕ → ℕ → Option ℕ → Type 0
FirstIs t j i count None = (k : ℕ) → i ≤ k → k < i + count → t k j ≡ int (pos 0)
FirstIs t j i count (Some p) = IsFirst t j i count p

first_step : (t : Table) (j i count : ℕ) (o : Option ℕ) → t i j ≡ int (pos 0) → FirstIs t j (suc i) count o → FirstIs t j i (suc count) o
first_step t j i count None e h = λ k l m. ⊎_elim (λ q. ap (λ r. t r j) q ∙ e) (λ q. h k (omega arith) (omega arith)) (cases_eq k i)
first_step t j i count (Some p) e h = record {
  from = let f = h.from in omega arith;
  below = let f = h.below in omega arith;
  some = h.some;
  before = λ k l m. ⊎_elim (λ q. ap (λ r. t r j) q ∙ e) (λ q. h.before k (omega arith) m) (cases_eq k i);
}

first_at : (t : Table) (j i count : ℕ) (b : Bool) → is_zero (t i j) ≡ b → FirstIs t j (suc i) count (first_nonzero t j (suc i) count) → FirstIs t j i (suc count) (cond b (first_nonzero t j (suc i) count) (Some i))
first_at t j i count true e h = first_step t j i count (first_nonzero t j (suc i) count) (zero_from (t i j) e) h
first_at t j i count false e h = record { from = omega arith; below = omega arith; some = nonzero_from (t i j) e; before = λ k l m. absurd (omega arith) }

pub first_is : (t : Table) (j i count : ℕ) → FirstIs t j i count (first_nonzero t j i count)
unfolding first_nonzero
first_is t j i zero = λ k l m. absurd (omega arith)
first_is t j i (suc count) = first_at t j i count (is_zero (t i j)) refl (first_is t j (suc i) count)

first_same : (t : Table) (j i count : ℕ) (o o' : Option ℕ) → FirstIs t j i count o → FirstIs t j i count o' → o ≡ o'
first_same t j i count None None h k = refl
first_same t j i count None (Some p) h k = absurd (k.some (h p k.from k.below))
first_same t j i count (Some p) None h k = absurd (h.some (k p h.from h.below))
first_same t j i count (Some p) (Some p') h k = ap Some (same_row (cases_eq p p'))
  where
    same_row : (p ≡ p') ⊎ (p ≡ p' → ⊥) → p ≡ p'
    same_row (inl e) = e
    same_row (inr e) = by (cases_below p p' e)
      where
        cases_below : (m n : ℕ) → (m ≡ n → ⊥) → (m < n) ⊎ (n < m)
        cases_below zero zero e = absurd (e refl)
        cases_below zero (suc n) e = inl (omega arith)
        cases_below (suc m) zero e = inr (omega arith)
        cases_below (suc m) (suc n) e = ⊎_elim (λ l. inl (omega arith)) (λ l. inr (omega arith)) (cases_below m n (λ q. e (ap suc q)))

        by : (p < p') ⊎ (p' < p) → p ≡ p'
        by (inl l) = absurd (h.some (k.before p h.from l))
        by (inr l) = absurd (k.some (h.before p' k.from l))

-- the pivot row by what it is
pub pivot_none : (n : ℕ) (t : Table) (c : ℕ) → pivot_row n t c ≡ None → (i : ℕ) → c ≤ i → i < n → t i c ≡ int (pos 0)
unfolding pivot_row
pivot_none n t c e i l m = subst (FirstIs t c c (n - c)) e (first_is t c c (n - c)) i l (omega arith)

pub pivot_some : (n : ℕ) (t : Table) (c p : ℕ) → pivot_row n t c ≡ Some p → c ≤ n → IsFirst t c c (n - c) p
unfolding pivot_row
pivot_some n t c p e l = subst (FirstIs t c c (n - c)) e (first_is t c c (n - c))

pub pivot_row-none : (n : ℕ) (t : Table) (c : ℕ) → c ≤ n → ((i : ℕ) → c ≤ i → i < n → t i c ≡ int (pos 0)) → None ≡ pivot_row n t c
unfolding pivot_row
pivot_row-none n t c l h = first_same t c c (n - c) None (first_nonzero t c c (n - c)) (λ k a b. h k a (omega arith)) (first_is t c c (n - c))

pub pivot_row-some : (n : ℕ) (t : Table) (c p : ℕ) → c ≤ p → p < n → t p c ≢ int (pos 0) → ((i : ℕ) → c ≤ i → i < p → t i c ≡ int (pos 0)) → Some p ≡ pivot_row n t c
unfolding pivot_row
pivot_row-some n t c p a b s h = first_same t c c (n - c) (Some p) (first_nonzero t c c (n - c)) (record { from = a; below = omega arith; some = s; before = h }) (first_is t c c (n - c))
