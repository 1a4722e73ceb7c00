-- Tables that agree in their first rows and columns are eliminated alike.
use Rattle.std.proofs.Common.{◌≡◌, ◌≢◌, ℕ, zero, suc, ◌+◌, ◌-◌, ◌<◌, ◌≤◌, cond, eqb, Bool, true, false, Option, Some, None, refl, sym, ◌∙◌, subst, subst₂, arith, ◌⊎◌, inl, inr, ⊎_elim, eq-eqb, ne_eqb}
use Rattle.std.proofs.lemmas.Bool.{cond-true, cond-false, cases_eq}
use Rattle.mpc_exact.specs.Rational.{◌*ℚ◌, ◌-ℚ◌, ◌/ℚ◌, neg_ℚ}
use Rattle.mpc_frac.specs.Fits.{FitsFrac, FitsSum}
use Rattle.mpc_linear.specs.Elimination.{Table, is_zero, first_nonzero, exchanged_row, exchanged, reduced, after_column, eliminated, pivot_row, ColumnFits}

-- the two tables agree in so many rows and columns
abbrev pub Agree : ℕ → ℕ → Table → Table → Type 0
Agree n w t s = (i j : ℕ) → i < n → j < w → t i j ≡ s i j

pub agree_back : (n w : ℕ) (t s : Table) → Agree n w t s → Agree n w s t
agree_back n w t s h i j hi hj = sym (h i j hi hj)

-- ---- the reduction
pub reduced-pivot : (c : ℕ) (t : Table) (i j : ℕ) → i ≡ c → reduced c t i j ≡ t c j /ℚ t c c
unfolding reduced
reduced-pivot c t i j e = cond-true (eqb i c) (t c j /ℚ t c c) (t i j -ℚ t i c *ℚ (t c j /ℚ t c c)) (eq-eqb i c e)

pub reduced-other : (c : ℕ) (t : Table) (i j : ℕ) → i ≢ c → reduced c t i j ≡ t i j -ℚ t i c *ℚ (t c j /ℚ t c c)
unfolding reduced
reduced-other c t i j e = cond-false (eqb i c) (t c j /ℚ t c c) (t i j -ℚ t i c *ℚ (t c j /ℚ t c c)) (ne_eqb i c e)

module _ (n w c : ℕ) (t s : Table) (hc : c < n) (hw : c < w) (h : Agree n w t s) where
  quotient_same : (j : ℕ) → j < w → t c j /ℚ t c c ≡ s c j /ℚ s c c
  quotient_same j m = λ i. h c j hc m i /ℚ h c c hc hw i

  pub reduced_agree : Agree n w (reduced c t) (reduced c s)
  reduced_agree i j hi m = ⊎_elim
      (λ e. reduced-pivot c t i j e ∙ quotient_same j m ∙ sym (reduced-pivot c s i j e))
      (λ e. reduced-other c t i j e ∙ (λ x. h i j hi m x -ℚ h i c hi hw x *ℚ quotient_same j m x) ∙ sym (reduced-other c s i j e))
      (cases_eq i c)

  pub fits_agree : ColumnFits n w c s → ColumnFits n w c t
  fits_agree f = record {
    quotients = λ j l m. subst FitsFrac (sym (quotient_same j m)) (f.quotients j l m);
    products = λ i j hi q some l m.
        subst₂ (λ u v. FitsFrac (u *ℚ v)) (sym (h i c hi hw)) (sym (quotient_same j m)) (f.products i j hi q (λ z. some (h i c hi hw ∙ z)) l m);
    differences = λ i j hi q some l m.
        subst₂ (λ u v. FitsSum u (neg_ℚ v)) (sym (h i j hi m)) (λ x. sym (h i c hi hw) x *ℚ sym (quotient_same j m) x)
        (f.differences i j hi q (λ z. some (h i c hi hw ∙ z)) l m);
  }

-- ---- the exchange
pub row-within : (n c p i : ℕ) → c < n → p < n → i < n → exchanged_row c p i < n
unfolding exchanged_row
row-within n c p i hc hp hi = by (cases_eq i c) (cases_eq i p)
  where
    by : (i ≡ c) ⊎ (i ≡ c → ⊥) → (i ≡ p) ⊎ (i ≡ p → ⊥) → cond (eqb i c) p (cond (eqb i p) c i) < n
    by (inl e) q = subst (λ k. k < n) (sym (cond-true (eqb i c) p (cond (eqb i p) c i) (eq-eqb i c e))) hp
    by (inr d) (inl e) = subst (λ k. k < n) (sym (cond-false (eqb i c) p (cond (eqb i p) c i) (ne_eqb i c d) ∙ cond-true (eqb i p) c i (eq-eqb i p e))) hc
    by (inr d) (inr e) = subst (λ k. k < n) (sym (cond-false (eqb i c) p (cond (eqb i p) c i) (ne_eqb i c d) ∙ cond-false (eqb i p) c i (ne_eqb i p e))) hi

pub exchanged_agree : (n w c p : ℕ) (t s : Table) → c < n → p < n → Agree n w t s → Agree n w (exchanged c p t) (exchanged c p s)
unfolding exchanged
exchanged_agree n w c p t s hc hp h i j hi m = h (exchanged_row c p i) j (row-within n c p i hc hp hi) m

row-itself : (c i : ℕ) → exchanged_row c c i ≡ i
unfolding exchanged_row
row-itself c i = by (cases_eq i c)
  where
    by : (i ≡ c) ⊎ (i ≡ c → ⊥) → cond (eqb i c) c (cond (eqb i c) c i) ≡ i
    by (inl e) = cond-true (eqb i c) c (cond (eqb i c) c i) (eq-eqb i c e) ∙ sym e
    by (inr e) = cond-false (eqb i c) c (cond (eqb i c) c i) (ne_eqb i c e) ∙ cond-false (eqb i c) c i (ne_eqb i c e)

-- a row that changes places with itself
pub exchanged-itself : (c : ℕ) (t : Table) → exchanged c c t ≡ t
unfolding exchanged
exchanged-itself c t = λ m i j. t (row-itself c i m) j

-- ---- the pivot
first_same : (t s : Table) (j i count : ℕ) → ((k : ℕ) → i ≤ k → k < i + count → t k j ≡ s k j) → first_nonzero t j i count ≡ first_nonzero s j i count
unfolding first_nonzero
first_same t s j i zero h = refl
first_same t s j i (suc count) h = λ m. cond (is_zero (h i (omega arith) (omega arith) m)) (first_same t s j (suc i) count (λ k a b. h k (omega arith) (omega arith)) m) (Some i)

pub pivot_same : (n w c : ℕ) (t s : Table) → c ≤ n → c < w → Agree n w t s → pivot_row n t c ≡ pivot_row n s c
unfolding pivot_row
pivot_same n w c t s hn hw h = first_same t s c c (n - c) (λ k a b. h k c (omega arith) hw)

first_in : (t : Table) (j i count p : ℕ) (b : Bool) → (first_nonzero t j (suc i) count ≡ Some p → p < suc i + count) → cond b (first_nonzero t j (suc i) count) (Some i) ≡ Some p → p < i + suc count
first_in t j i count p true h e = let l = h e in omega arith
first_in t j i count p false h e = let q : i ≡ p = cc in omega arith

first_within : (t : Table) (j i count p : ℕ) → first_nonzero t j i count ≡ Some p → p < i + count
unfolding first_nonzero
first_within t j i zero p e = cc
first_within t j i (suc count) p e = first_in t j i count p (is_zero (t i j)) (first_within t j (suc i) count p) e

pub pivot_within : (n c p : ℕ) (t : Table) → c ≤ n → pivot_row n t c ≡ Some p → p < n
unfolding pivot_row
pivot_within n c p t h e = let l = first_within t c c (n - c) p e in omega arith

-- ---- the elimination from column c on
module _ (n w : ℕ) (square : n ≤ w) (t s : Table) where
  abbrev AgreeAfter : ℕ → Type 0
  AgreeAfter c = Agree n w (eliminated n t c) (eliminated n s c)

  column_agree : (c : ℕ) (a b : Table) (o : Option ℕ) → c < n → ((p : ℕ) → o ≡ Some p → p < n) → Agree n w a b → Agree n w (after_column c a o) (after_column c b o)
  unfolding after_column
  column_agree c a b None hc q h = h
  column_agree c a b (Some p) hc q h = reduced_agree n w c (exchanged c p a) (exchanged c p b) hc (omega arith) (exchanged_agree n w c p a b hc (q p refl) h)

  next_agree : (c : ℕ) → c < n → AgreeAfter c → AgreeAfter (suc c)
  unfolding eliminated
  next_agree c hc h =
      let a = eliminated n t c in
      let b = eliminated n s c in
      let e : pivot_row n a c ≡ pivot_row n b c = pivot_same n w c a b (omega arith) (omega arith) h in
      subst (λ o. Agree n w (after_column c a o) (after_column c b (pivot_row n b c))) (sym e)
      (column_agree c a b (pivot_row n b c) hc (λ p q. pivot_within n c p b (omega arith) q) h)

  later_agree : (u d : ℕ) → u + d ≤ n → AgreeAfter u → AgreeAfter (u + d)
  later_agree u zero l h = let e : u + 0 ≡ u = omega arith in subst AgreeAfter (sym e) h
  later_agree u (suc d) l h = let e : u + suc d ≡ suc (u + d) = omega arith in subst AgreeAfter (sym e) (next_agree (u + d) (omega arith) (later_agree u d (omega arith) h))

  pub from_agree : (u c : ℕ) → u ≤ c → c ≤ n → AgreeAfter u → AgreeAfter c
  from_agree u c l m h = let e : u + (c - u) ≡ c = omega arith in subst AgreeAfter e (later_agree u (c - u) (omega arith) h)
