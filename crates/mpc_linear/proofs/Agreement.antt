-- Tables that agree in their first rows and columns are eliminated alike.
use Rattle.std.proofs.Common.{◌≡◌, ℕ, zero, suc, ◌+◌, ◌-◌, ◌<◌, ◌≤◌, Option, Some, None, refl, sym, ◌∙◌, ap, subst, subst₂, arith, ⊎_elim}
use Rattle.std.proofs.lemmas.Bool.{cases_eq}
use Rattle.mpc_exact.specs.Rational.{◌*ℚ◌, ◌-ℚ◌, ◌/ℚ◌, neg_ℚ}
use Rattle.mpc_frac.specs.Fits.{FitsFrac, FitsSum}
use Rattle.mpc_linear.specs.Elimination.{Table, exchanged_row, exchanged, reduced, after_column, eliminated, pivot_row, ColumnFits, ColumnsDone, EndsDependent, EndsWide}
use Rattle.mpc_linear.specs.Stored.{SameFrom}
use Rattle.mpc_linear.proofs.Reduction.{row-below, exchanged-at, reduced-pivot, reduced-other}
use Rattle.mpc_linear.proofs.Pivots.{pivot_some, pivot_none, pivot_row-some, pivot_row-none}

-- a pivot row is the same in tables that agree from its column on
pub pivot_same : (n w c : ℕ) (t s : Table) → c ≤ n → c < w → SameFrom n w c t s → pivot_row n t c ≡ pivot_row n s c
pivot_same n w c t s hn hw h = by (pivot_row n s c) refl
  where
    by : (o : Option ℕ) → pivot_row n s c ≡ o → pivot_row n t c ≡ pivot_row n s c
    by None e = sym (pivot_row-none n t c hn (λ i l m. h i c m (omega arith) hw ∙ pivot_none n s c e i l m)) ∙ sym e
    by (Some p) e =
        let f = pivot_some n s c p e hn in
        let a = f.from in
        let b = f.below in
        let pn : p < n = omega arith in
        sym (pivot_row-some n t c p a pn (λ z. f.some (sym (h p c pn (omega arith) hw) ∙ z)) (λ i l m. h i c (omega arith) (omega arith) hw ∙ f.before i l m)) ∙ sym e

module _ (n w c p : ℕ) (t s : Table) (hc : c < n) (hp : p < n) (hw : c < w) (h : SameFrom n w c t s) where
  pub exchanged_same : SameFrom n w c (exchanged c p t) (exchanged c p s)
  exchanged_same i j hi l m = exchanged-at c p t i j ∙ h (exchanged_row c p i) j (row-below n c p i hc hp hi) l m ∙ sym (exchanged-at c p s i j)

module _ (n w c : ℕ) (t s : Table) (hc : c < n) (hw : c < w) (h : SameFrom n w c t s) where
  quotient_same : (j : ℕ) → c ≤ j → j < w → t c j /ℚ t c c ≡ s c j /ℚ s c c
  quotient_same j l m = λ i. h c j hc l m i /ℚ h c c hc (omega arith) hw i

  pub reduced_same : SameFrom n w c (reduced c t) (reduced c s)
  reduced_same i j hi l m = ⊎_elim
      (λ e. reduced-pivot c t i j e ∙ quotient_same j l m ∙ sym (reduced-pivot c s i j e))
      (λ e. reduced-other c t i j e ∙ (λ x. h i j hi l m x -ℚ h i c hi (omega arith) hw x *ℚ quotient_same j l m x) ∙ sym (reduced-other c s i j e))
      (cases_eq i c)

  pub fits_same : ColumnFits n w c s → ColumnFits n w c t
  fits_same f = record {
    quotients = λ j l m. subst FitsFrac (sym (quotient_same j (omega arith) m)) (f.quotients j l m);
    products = λ i j hi q some l m.
        subst₂ (λ u v. FitsFrac (u *ℚ v)) (sym (h i c hi (omega arith) hw)) (sym (quotient_same j (omega arith) m)) (f.products i j hi q (λ z. some (h i c hi (omega arith) hw ∙ z)) l m);
    differences = λ i j hi q some l m.
        subst₂ (λ u v. FitsSum u (neg_ℚ v)) (sym (h i j hi (omega arith) m)) (λ x. sym (h i c hi (omega arith) hw) x *ℚ sym (quotient_same j (omega arith) m) x)
        (f.differences i j hi q (λ z. some (h i c hi (omega arith) hw ∙ z)) l m);
  }

pub same_back : (n w c : ℕ) (t s : Table) → SameFrom n w c t s → SameFrom n w c s t
same_back n w c t s h i j hi l m = sym (h i j hi l m)

pub same_later : (n w c d : ℕ) (t s : Table) → c ≤ d → SameFrom n w c t s → SameFrom n w d t s
same_later n w c d t s k h i j hi l m = h i j hi (omega arith) m

-- ---- the whole elimination of tables that agree everywhere
module _ (n w : ℕ) (square : n ≤ w) (t s : Table) (h : SameFrom n w 0 t s) where
  unpivoted : (c : ℕ) → pivot_row n (eliminated n s c) c ≡ None → eliminated n s (suc c) ≡ eliminated n s c
  unfolding eliminated after_column
  unpivoted c e = ap (after_column c (eliminated n s c)) e

  pub eliminated_same : (c : ℕ) → c ≤ n → SameFrom n w 0 (eliminated n t c) (eliminated n s c)
  unfolding eliminated after_column
  eliminated_same zero l = h
  eliminated_same (suc c) l =
      let k = eliminated_same c (omega arith) in
      let a = eliminated n t c in
      let b = eliminated n s c in
      let e : pivot_row n a c ≡ pivot_row n b c = pivot_same n w c a b (omega arith) (omega arith) (same_later n w 0 c a b (omega arith) k) in
      subst (λ o. SameFrom n w 0 (after_column c a o) (after_column c b (pivot_row n b c))) (sym e) (by c a b k (omega arith) (pivot_row n b c) (λ p q. (pivot_some n b c p q (omega arith)).below))
    where
      by : (c : ℕ) (a b : Table) → SameFrom n w 0 a b → c < n → (o : Option ℕ) → ((p : ℕ) → o ≡ Some p → p < c + (n - c)) → SameFrom n w 0 (after_column c a o) (after_column c b o)
      by c a b k hc None q = k
      by c a b k hc (Some p) q =
          let hp : p < n = (let r = q p refl in omega arith) in
          let hw : c < w = omega arith in
          all_same c p a b hc hp hw k
        where
          all_same : (c p : ℕ) (a b : Table) → c < n → p < n → c < w → SameFrom n w 0 a b → SameFrom n w 0 (reduced c (exchanged c p a)) (reduced c (exchanged c p b))
          all_same c p a b hc hp hw k i j hi l m =
              let x : (i j : ℕ) → i < n → j < w → exchanged c p a i j ≡ exchanged c p b i j = λ i j hi m. exchanged-at c p a i j ∙ k (exchanged_row c p i) j (row-below n c p i hc hp hi) (omega arith) m ∙ sym (exchanged-at c p b i j) in
              ⊎_elim
              (λ e. reduced-pivot c (exchanged c p a) i j e ∙ (λ y. x c j hc m y /ℚ x c c hc hw y) ∙ sym (reduced-pivot c (exchanged c p b) i j e))
              (λ e. reduced-other c (exchanged c p a) i j e ∙ (λ y. x i j hi m y -ℚ x i c hi hw y *ℚ (x c j hc m y /ℚ x c c hc hw y)) ∙ sym (reduced-other c (exchanged c p b) i j e))
              (cases_eq i c)

  from : (c : ℕ) → c ≤ n → SameFrom n w c (eliminated n t c) (eliminated n s c)
  from c l = same_later n w 0 c (eliminated n t c) (eliminated n s c) (omega arith) (eliminated_same c l)

  pivot_is : (c : ℕ) → c < n → pivot_row n (eliminated n t c) c ≡ pivot_row n (eliminated n s c) c
  pivot_is c l = pivot_same n w c (eliminated n t c) (eliminated n s c) (omega arith) (omega arith) (from c (omega arith))

  pivot_in : (c p : ℕ) → c < n → pivot_row n (eliminated n t c) c ≡ Some p → p < n
  pivot_in c p l e = let f = (pivot_some n (eliminated n t c) c p e (omega arith)).below in omega arith

  exchange_is : (c p : ℕ) → c < n → p < n → SameFrom n w c (exchanged c p (eliminated n t c)) (exchanged c p (eliminated n s c))
  exchange_is c p l m = exchanged_same n w c p (eliminated n t c) (eliminated n s c) l m (omega arith) (from c (omega arith))

  pub done_same : (c : ℕ) → c ≤ n → ColumnsDone n w t c → ColumnsDone n w s c
  done_same c l d k m =
      let p = d k m in
      let hp = pivot_in k p.0 (omega arith) p.1.pivot in (
        p.0,
        record {
          pivot = sym (pivot_is k (omega arith)) ∙ p.1.pivot;
          fits = fits_same n w k (exchanged k p.0 (eliminated n s k)) (exchanged k p.0 (eliminated n t k)) (omega arith) (omega arith)
              (same_back n w k (exchanged k p.0 (eliminated n t k)) (exchanged k p.0 (eliminated n s k)) (exchange_is k p.0 (omega arith) hp)) p.1.fits;
        },
      )

  pub dependent_same : (c : ℕ) → EndsDependent n w t c → EndsDependent n w s c
  dependent_same c d = let b = d.below in record { before = done_same c (omega arith) d.before; below = d.below; no_pivot = sym (pivot_is c d.below) ∙ d.no_pivot }

  pub wide_same : (c : ℕ) → EndsWide n w t c → EndsWide n w s c
  wide_same c d =
      let b = d.below in
      let hp = pivot_in c d.pivot d.below d.has_pivot in
      record {
        before = done_same c (omega arith) d.before;
        below = d.below;
        pivot = d.pivot;
        has_pivot = sym (pivot_is c d.below) ∙ d.has_pivot;
        wide = λ f. d.wide (fits_same n w c (exchanged c d.pivot (eliminated n t c)) (exchanged c d.pivot (eliminated n s c)) d.below (omega arith) (exchange_is c d.pivot d.below hp) f);
      }
