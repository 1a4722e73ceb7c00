-- Tables of which each is swept to give the next, and the stated elimination of the part that their rows are.
use Rattle.std.proofs.Common.{◌≡◌, ◌≢◌, ℕ, zero, suc, ◌<◌, ◌≤◌, pos, refl, sym, ◌∙◌, ap, subst, subst₂, arith, ⊎_elim}
use Rattle.std.proofs.lemmas.Bool.{cases_eq}
use Rattle.mpc_exact.specs.Rational.{int, ◌*ℚ◌, ◌-ℚ◌, ◌/ℚ◌, neg_ℚ}
use Rattle.mpc_frac.specs.Fits.{FitsFrac, FitsSum}
use Rattle.mpc_linear.specs.Elimination.{Table, reduced, eliminated, ColumnFits, ColumnDone, ColumnsDone, EndsDependent}
use Rattle.mpc_bordered.specs.Fronts.{EntryFits}
use Rattle.mpc_sweep.proofs.Steps.{reduced-pivot, reduced-other, exchanged-itself, pivot_here, no_pivot, eliminated-zero, eliminated-suc}

-- the first u tables are swept at the rows p, one after another
abbrev pub AreSweeps : (ℕ → Table) → (ℕ → ℕ) → ℕ → Type 0
AreSweeps s p u = (c : ℕ) → c < u → s (suc c) ≡ reduced (p c) (s c)

-- The part a has the rows p and the columns col of the first table. It has n rows, and u of them are swept.
pub record IsPartOfSweeps (n w u : ℕ) (a : Table) (s : ℕ → Table) (p col : ℕ → ℕ) : Type 0 where
  pub within : u ≤ n
  pub square : n ≤ w
  pub start : (i j : ℕ) → i < n → j < w → a i j ≡ s 0 (p i) (col j)
  pub sweeps : AreSweeps s p u
  pub front : (c : ℕ) → c < n → col c ≡ p c
  pub distinct : (i j : ℕ) → i < n → j < n → p i ≡ p j → i ≡ j
  pub pivots : (c : ℕ) → c < u → s c (p c) (p c) ≢ int (pos 0)
  pub fits : (c i j : ℕ) → c < u → i < n → c < j → j < w → EntryFits (p c) (s c) (p i) (col j)

module _ (n w u : ℕ) (a : Table) (s : ℕ → Table) (p col : ℕ → ℕ) (is : IsPartOfSweeps n w u a s p col) where
  abbrev table : ℕ → Table
  table c = eliminated n a c

  -- once c columns are eliminated, the part has the entries of the table after c sweeps
  abbrev Agrees : ℕ → Type 0
  Agrees c = (i j : ℕ) → i < n → j < w → table c i j ≡ s c (p i) (col j)

  module _ (c : ℕ) (l : c < u) (h : Agrees c) where
    below : c < n
    below = let b = is.within in omega arith

    inside : c < w
    inside = let b = is.within in let q = is.square in omega arith

    in_column : (i : ℕ) → i < n → table c i c ≡ s c (p i) (p c)
    in_column i hi = h i c hi inside ∙ ap (s c (p i)) (is.front c below)

    pivot_some : table c c c ≢ int (pos 0)
    pivot_some e = is.pivots c l (sym (in_column c below) ∙ e)

    quotient_same : (j : ℕ) → j < w → table c c j /ℚ table c c c ≡ s c (p c) (col j) /ℚ s c (p c) (p c)
    quotient_same j hj = λ m. h c j below hj m /ℚ in_column c below m

    reduced_same : (i j : ℕ) → i < n → j < w → reduced c (table c) i j ≡ reduced (p c) (s c) (p i) (col j)
    reduced_same i j hi hj = ⊎_elim
        (λ e. reduced-pivot c (table c) i j e ∙ quotient_same j hj ∙ sym (reduced-pivot (p c) (s c) (p i) (col j) (ap p e)))
        (λ e.
        reduced-other c (table c) i j e ∙ (λ m. h i j hi hj m -ℚ in_column i hi m *ℚ quotient_same j hj m)
        ∙ sym (reduced-other (p c) (s c) (p i) (col j) (λ q. e (is.distinct i c hi below q))))
        (cases_eq i c)

    agrees_next : Agrees (suc c)
    agrees_next i j hi hj =
        ap (λ z. z i j) (eliminated-suc n c a below pivot_some) ∙ reduced_same i j hi hj
        ∙ sym (ap (λ z. z (p i) (col j)) (is.sweeps c l))

    column_fits : ColumnFits n w c (table c)
    column_fits = record {
      quotients = λ j b hj. subst FitsFrac (sym (quotient_same j hj)) ((is.fits c c j l below b hj).quotient refl);
      products = λ i j hi q some b hj.
          subst₂ (λ x y. FitsFrac (x *ℚ y)) (sym (in_column i hi)) (sym (quotient_same j hj))
          ((is.fits c i j l hi b hj).product (λ e. q (is.distinct i c hi below e)) (λ z. some (in_column i hi ∙ z)));
      differences = λ i j hi q some b hj.
          subst₂ (λ x y. FitsSum x (neg_ℚ y)) (sym (h i j hi hj)) (λ m. sym (in_column i hi) m *ℚ sym (quotient_same j hj) m)
          ((is.fits c i j l hi b hj).difference (λ e. q (is.distinct i c hi below e)) (λ z. some (in_column i hi ∙ z)));
    }

    column_done : ColumnDone n w a c c
    column_done = record {
      pivot = pivot_here n c (table c) below pivot_some;
      fits = subst (ColumnFits n w c) (sym (exchanged-itself c (table c))) column_fits;
    }

  pub agrees : (c : ℕ) → c ≤ u → Agrees c
  agrees zero l = λ i j hi hj. ap (λ z. z i j) (eliminated-zero n a) ∙ is.start i j hi hj
  agrees (suc c) l = agrees_next c (omega arith) (agrees c (omega arith))

  pub columns_done : ColumnsDone n w a u
  columns_done c l = (c, column_done c l (agrees c (omega arith)))

  -- one row is left, and it is 0 on the diagonal
  pub ends_dependent : n ≡ suc u → s u (p u) (p u) ≡ int (pos 0) → EndsDependent n w a u
  ends_dependent e none =
      let q = is.square in
      record {
        before = columns_done;
        below = omega arith;
        no_pivot = no_pivot n u (table u) e (agrees u (omega arith) u u (omega arith) (omega arith) ∙ ap (s u (p u)) (is.front u (omega arith)) ∙ none);
      }
