-- A table that is swept at one more row.
use Rattle.std.proofs.Common.{◌≡◌, ◌≢◌, ℕ, suc, ◌+◌, ◌-◌, ◌*◌, ◌<◌, ◌≤◌, List, [], ◌∷◌, ◌++◌, length, get_or, ℤ, pos, unsigned_abs, refl, sym, ◌∙◌, ap, subst, subst₂, arith, ◌⊎◌, inl, inr, le_trans, length-append}
use Rattle.std.proofs.lemmas.Bool.{cases_eq, cases_lt}
use Rattle.std.proofs.lemmas.List.{get_or_append_left, get_or_past, take-append-le, take_at}
use Rattle.std.proofs.Math.Seq.{get_or-append_seam}
use Rattle.mpc_exact.specs.Rational.{frac, int}
use Rattle.mpc_linear.specs.Elimination.{Table, reduced}
use Rattle.mpc_bordered.specs.Fronts.{EntryFits}
use Rattle.mpc_scaled.specs.Scaled.{whole_at, whole_cell}
use Rattle.mpc_quotients.specs.OverTheorems.{OverTheorems}
use Rattle.mpc_sweep.specs.declared.numbers.Swept.{Swept}
use Rattle.mpc_sweep.specs.Sweeps.{swept, pivot_at, before, HasPivots, AreRising, SweepsFit}
use Rattle.mpc_sweep.specs.Numbers.{told_columns, number, IsTable, IsSwept}
use Rattle.mpc_sweep.specs.Steps.{IsNumber, AreSweptRows}
use Rattle.mpc_sweep.proofs.Befores.{swept-more}
use Rattle.mpc_sweep.proofs.SweptEntry.{over_some, entry_fits, own_entry, other_entry}

swept-none : (t : Table) → swept t [] ≡ t
unfolding swept
swept-none t = refl

module _ (ps : List ℕ) (p : ℕ) where
  length-more : length (ps ++ p ∷ []) ≡ suc (length ps)
  length-more = let e = length-append ps (p ∷ []) in omega arith

  pivot_kept : (k : ℕ) → k < length ps → pivot_at (ps ++ p ∷ []) k ≡ pivot_at ps k
  pivot_kept k h = get_or_append_left ps (p ∷ []) 0 k h

  pivot_last : (k : ℕ) → k ≡ length ps → pivot_at (ps ++ p ∷ []) k ≡ p
  pivot_last k e = ap (pivot_at (ps ++ p ∷ [])) e ∙ get_or-append_seam ps p [] 0

  before_kept : (t : Table) (k : ℕ) → k < length ps → before t (ps ++ p ∷ []) k ≡ before t ps k
  before_kept t k h = ap (swept t) (take-append-le k ps (p ∷ []) (omega arith))

  before_last : (t : Table) (k : ℕ) → k ≡ length ps → before t (ps ++ p ∷ []) k ≡ swept t ps
  before_last t k e = ap (swept t) (take_at ps (p ∷ []) k (sym e))

-- one more row, whose number on the diagonal isn't 0, whatever its sweep leaves
module _ (from : Swept) (p first : ℕ) (pivot : number from p p ≢ pos 0) (t : Table) (ps : List ℕ) (rows columns from_column : ℕ) (h : IsSwept t ps rows columns from_column from)
    (p_row : p < rows) (p_column : p < columns) (at : from_column ≤ p) (behind : p < first) (above : (k : ℕ) → k < length ps → get_or ps k 0 < p) where
  -- the last sweep, and those before it
  split : (k : ℕ) → k < length (ps ++ p ∷ []) → (k < length ps) ⊎ (k ≡ length ps)
  split k l = by (cases_lt k (length ps))
    where
      by : (k < length ps) ⊎ (length ps ≤ k) → (k < length ps) ⊎ (k ≡ length ps)
      by (inl m) = inl m
      by (inr m) = inr (let e = length-more ps p in omega arith)

  row_of : (P : ℕ → Type 0) → P p → ((k : ℕ) → k < length ps → P (get_or ps k 0)) → (k : ℕ) → k < length (ps ++ p ∷ []) → P (get_or (ps ++ p ∷ []) k 0)
  row_of P last kept k l = by (split k l)
    where
      by : (k < length ps) ⊎ (k ≡ length ps) → P (get_or (ps ++ p ∷ []) k 0)
      by (inl m) = subst P (sym (pivot_kept ps p k m)) (kept k m)
      by (inr e) = subst P (sym (pivot_last ps p k e)) last

  rising_there : AreRising (ps ++ p ∷ [])
  rising_there k l m n = by (split l n)
    where
      by : (l < length ps) ⊎ (l ≡ length ps) → pivot_at (ps ++ p ∷ []) k < pivot_at (ps ++ p ∷ []) l
      by (inl b) = subst (λ u. u < pivot_at (ps ++ p ∷ []) l) (sym (pivot_kept ps p k (omega arith))) (subst (λ u. pivot_at ps k < u) (sym (pivot_kept ps p l b)) (h.rising k l m b))
      by (inr e) = subst (λ u. u < pivot_at (ps ++ p ∷ []) l) (sym (pivot_kept ps p k (omega arith))) (subst (λ u. pivot_at ps k < u) (sym (pivot_last ps p l e)) (above k (omega arith)))

  pivot_there : swept t ps p p ≢ int (pos 0)
  pivot_there e = over_some (number from p p) from.den h.table.some_den pivot (sym (h.entries p p p_row at p_column) ∙ e)

  pub pivots_there : HasPivots t (ps ++ p ∷ [])
  pivots_there k l = by (split k l)
    where
      by : (k < length ps) ⊎ (k ≡ length ps) → before t (ps ++ p ∷ []) k (pivot_at (ps ++ p ∷ []) k) (pivot_at (ps ++ p ∷ []) k) ≢ int (pos 0)
      by (inl m) = λ q. h.pivots k m ((λ x. sym (before_kept ps p t k m) x (sym (pivot_kept ps p k m) x) (sym (pivot_kept ps p k m) x)) ∙ q)
      by (inr e) = λ q. pivot_there ((λ x. sym (before_last ps p t k e) x (sym (pivot_last ps p k e) x) (sym (pivot_last ps p k e) x)) ∙ q)

  module _ (laws : OverTheorems) where
    fits_there : (i j : ℕ) → i < rows → from_column ≤ j → j < columns → EntryFits p (swept t ps) i j
    fits_there i j i_row in_front j_column =
        entry_fits laws (swept t ps) p i j (number from p p) (number from p j) (number from i p) (number from i j) from.den h.table.some_den h.table.small_den pivot
        (h.table.small.each (p * told_columns from + p)) (h.table.small.each (p * told_columns from + j)) (h.table.small.each (i * told_columns from + p)) (h.table.small.each (i * told_columns from + j))
        (h.entries p p p_row at p_column) (h.entries p j p_row in_front j_column) (h.entries i p i_row at p_column) (h.entries i j i_row in_front j_column)

    pub all_fit : SweepsFit t (ps ++ p ∷ []) rows columns first
    all_fit k i j l i_row m next last j_column = by (split k l)
      where
        by : (k < length ps) ⊎ (k ≡ length ps) → EntryFits (pivot_at (ps ++ p ∷ []) k) (before t (ps ++ p ∷ []) k) i j
        by (inl b) =
            let ahead : pivot_at (ps ++ p ∷ []) (suc k) ≤ j = next (let e = length-more ps p in omega arith) in
            subst (λ u. EntryFits u (before t (ps ++ p ∷ []) k) i j) (sym (pivot_kept ps p k b))
            (subst (λ (u : Table). EntryFits (pivot_at ps k) u i j) (sym (before_kept ps p t k b))
            (h.fits k i j b i_row (subst (λ u. u < j) (pivot_kept ps p k b) m)
            (λ f. subst (λ u. u ≤ j) (pivot_kept ps p (suc k) f) ahead)
            (λ f. le_trans at (subst (λ u. u ≤ j) (pivot_last ps p (suc k) f) ahead)) j_column))
        by (inr e) =
            let front : first ≤ j = last (let q = length-more ps p in omega arith) in
            subst (λ u. EntryFits u (before t (ps ++ p ∷ []) k) i j) (sym (pivot_last ps p k e))
            (subst (λ (u : Table). EntryFits p u i j) (sym (before_last ps p t k e)) (fits_there i j i_row (omega arith) j_column))

-- what one sweep leaves in the other table
pub record IsOnce (from out : Swept) (p first : ℕ) : Type 0 where
  pub rows : out.rows ≡ from.rows
  pub columns : out.columns ≡ from.columns
  pub first_told : out.first ≡ first
  pub size : length out.numbers.items ≡ first + from.rows * (from.columns - first)
  pub swept : AreSweptRows from p first out.den out.most out.numbers.items
  pub within : first ≤ from.columns

module _ (laws : OverTheorems) (from out : Swept) (p first : ℕ) (o : IsTable from) (r : p < from.rows) (c : p < from.columns) (pivot : number from p p ≢ pos 0) (w : IsOnce from out p first) where
  told_there : told_columns out ≡ from.columns - first
  told_there = (λ k. w.columns k - w.first_told k)

  small_there : (k : ℕ) → (k < length out.numbers.items) ⊎ (length out.numbers.items ≤ k) → unsigned_abs (whole_at out.numbers.items k) ≤ out.most
  small_there k (inl l) = w.swept.rows.small k (subst (λ n. k < n) w.size l)
  small_there k (inr l) = subst (λ z. unsigned_abs z ≤ out.most) (sym (get_or_past out.numbers.items k (pos 0) l)) (omega arith)

  table_there : IsTable out
  table_there = record {
    told = subst₂ (λ a b. a ≤ b) (sym w.first_told) (sym w.columns) w.within;
    size = w.size ∙ (λ k. sym w.first_told k + sym w.rows k * sym told_there k);
    some_den = w.swept.den_some;
    small_den = le_trans w.swept.den_small w.swept.small;
    small = record { each = λ k. le_trans (small_there k (cases_lt k (length out.numbers.items))) w.swept.small };
    most_small = w.swept.small;
    most_den = w.swept.den_small;
    most = record { each = λ k. small_there k (cases_lt k (length out.numbers.items)) };
  }

  module _ (t : Table) (ps : List ℕ) (rows columns from_column : ℕ) (h : IsSwept t ps rows columns from_column from) (at : from_column ≤ p) (behind : p < first) (above : (k : ℕ) → k < length ps → get_or ps k 0 < p) where
    row_in : (i : ℕ) → i < rows → i < from.rows
    row_in i l = subst (λ u. i < u) (sym h.rows_are) l

    column_in : (j : ℕ) → j < columns → j < from.columns
    column_in j l = subst (λ u. j < u) (sym h.columns_are) l

    p_row : p < rows
    p_row = subst (λ u. p < u) h.rows_are r

    p_column : p < columns
    p_column = subst (λ u. p < u) h.columns_are c

    entry_there : (i j : ℕ) → i < rows → from_column ≤ j → j < columns → swept t ps i j ≡ frac (number from i j) from.den
    entry_there = h.entries

    module _ (i j : ℕ) (i_row : i < rows) (in_front : from_column ≤ j) (j_column : j < columns) where
      abbrev z : ℤ
      z = whole_cell (from.columns - first) out.numbers.items i j

      new_entry : IsNumber (told_columns from) from.den w.swept.by from.numbers.items p i j z → (i ≡ p) ⊎ (i ≡ p → ⊥) → reduced p (swept t ps) i j ≡ frac z out.den
      new_entry n (inl e) =
          own_entry laws (swept t ps) p i j (number from p p) (number from p j) (number from i p) (number from i j) from.den o.some_den o.small_den pivot
          (o.small.each (p * told_columns from + p)) (o.small.each (p * told_columns from + j)) (o.small.each (i * told_columns from + p)) (o.small.each (i * told_columns from + j))
          (h.entries p p p_row at p_column) (h.entries p j p_row in_front j_column) (h.entries i p i_row at p_column) (h.entries i j i_row in_front j_column)
          z w.swept.by out.den w.swept.some w.swept.den_some w.swept.den_is e (n.own e)
      new_entry n (inr e) =
          other_entry laws (swept t ps) p i j (number from p p) (number from p j) (number from i p) (number from i j) from.den o.some_den o.small_den pivot
          (o.small.each (p * told_columns from + p)) (o.small.each (p * told_columns from + j)) (o.small.each (i * told_columns from + p)) (o.small.each (i * told_columns from + j))
          (h.entries p p p_row at p_column) (h.entries p j p_row in_front j_column) (h.entries i p i_row at p_column) (h.entries i j i_row in_front j_column)
          z w.swept.by out.den w.swept.some w.swept.den_some w.swept.den_is e (n.other e)

    entries_there : (i j : ℕ) → i < rows → first ≤ j → j < columns → swept t (ps ++ p ∷ []) i j ≡ frac (number out i j) out.den
    entries_there i j i_row l m =
        ap (λ (u : Table). u i j) (swept-more t ps p)
        ∙ new_entry i j i_row (omega arith) m (w.swept.rows.numbers i j (row_in i i_row) l (let q = column_in j m in omega arith)) (cases_eq i p)
        ∙ (λ k. frac (whole_cell (sym told_there k) out.numbers.items i j) out.den)

    pub swept_once : IsSwept t (ps ++ p ∷ []) rows columns first out
    swept_once = record {
      rows_are = w.rows ∙ h.rows_are;
      columns_are = w.columns ∙ h.columns_are;
      told = subst (λ u. u ≤ first) (sym w.first_told) (omega arith);
      table = table_there;
      whole = h.whole;
      entries = entries_there;
      rising = rising_there from p first pivot t ps rows columns from_column h p_row p_column at behind above;
      within = row_of from p first pivot t ps rows columns from_column h p_row p_column at behind above (λ u. u < rows) p_row h.within;
      columns_within = row_of from p first pivot t ps rows columns from_column h p_row p_column at behind above (λ u. u < columns) p_column h.columns_within;
      pivots = pivots_there from p first pivot t ps rows columns from_column h p_row p_column at behind above;
      fits = all_fit from p first pivot t ps rows columns from_column h p_row p_column at behind above laws;
    }
