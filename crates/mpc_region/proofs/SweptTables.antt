-- The swept tables of a set's beginnings: one more sweep gives the table of one more member.
use Rattle.std.proofs.Common.{◌≡◌, ◌≢◌, ℕ, pos, zero, suc, ◌+◌, ◌-◌, ◌<◌, ◌≤◌, List, [], ◌∷◌, ◌++◌, length, get_or, set, take, sym, ◌∙◌, ap, subst, arith, ⊎_elim}
use Rattle.std.proofs.lemmas.Bool.{cases_lt, cases_eq}
use Rattle.std.proofs.lemmas.List.{append-nil, length-append, length-set, length-take-le, take-take, take_all, nil_from_length, get_or-take, get_or-set_same, get_or-set_other, get_or_append_left}
use Rattle.std.proofs.lemmas.List.FromFn.{length-range_with_len, get_or-range_with_len}
use Rattle.std.specs.List.{range_with_len}
use Rattle.mpc_space.specs.Matrix.{RationalMatrix, height, entry}
use Rattle.mpc_sets.specs.RowSet.{IsSetOfRows}
use Rattle.mpc_linear.specs.Elimination.{Table}
use Rattle.mpc_rows.specs.declared.programs.Qp.{Qp}
use Rattle.mpc_sweep.specs.declared.numbers.Swept.{Swept}
use Rattle.mpc_sweep.specs.Sweeps.{swept, HasPivots, SweepsFit}
use Rattle.mpc_sweep.specs.Numbers.{number, IsSwept, IsTable}
use Rattle.mpc_sweep.specs.Theorems.{NextSweepFits}
use Rattle.mpc_region.specs.Shared.{shared_entry, shared_table}
use Rattle.mpc_region.specs.Sweeps.{sweeps_of, rights, all_columns, IsTableOf}
use Rattle.mpc_region.specs.SweptSets.{IsBehind, IsTableOfFirst, AreTables}
use Rattle.mpc_region.proofs.Members.{member, members_rise}
use Rattle.mpc_region.proofs.SharedEntries.{shared_height, shared_columns, shared_at}
use Rattle.mpc_region.proofs.SweptParts.{sweeps_size, first_sweep, later_sweep, more_sweeps}

-- ---- told in fewer columns
told_later : (t : Table) (ps : List ℕ) (rows columns a b : ℕ) (s : Swept) → a ≤ b → IsSwept t ps rows columns a s → IsSwept t ps rows columns b s
told_later t ps rows columns a b s h is = record {
  rows_are = is.rows_are;
  columns_are = is.columns_are;
  told = let c = is.told in omega arith;
  table = is.table;
  whole = is.whole;
  entries = λ i j l f k. is.entries i j l (omega arith) k;
  rising = is.rising;
  within = is.within;
  columns_within = is.columns_within;
  pivots = is.pivots;
  fits = λ k i j a b c d e f. is.fits k i j a b c d (λ p. let q = e p in omega arith) f;
}

-- ---- the rows of h, one after another
range_more : (a n : ℕ) → range_with_len a (suc n) ≡ range_with_len a n ++ (a + n) ∷ []
range_more a zero = let e : a ≡ a + 0 = omega arith in ap (λ x. x ∷ []) e
range_more a (suc n) = let e : a + 1 + n ≡ a + suc n = omega arith in ap (λ xs. a ∷ xs) (range_more (a + 1) n ∙ ap (λ x. range_with_len (a + 1) n ++ x ∷ []) e)

module _ (qp : Qp) where
  abbrev n : ℕ
  n = height qp.h

  one_more : (p : ℕ) → range_with_len 0 (p + 1) ≡ range_with_len 0 p ++ p ∷ []
  one_more p =
      let e : p + 1 ≡ suc p = omega arith in
      let f : 0 + p ≡ p = omega arith in
      ap (range_with_len 0) e ∙ range_more 0 p ∙ ap (λ x. range_with_len 0 p ++ x ∷ []) f

  pub first_swept : (p : ℕ) (s : Swept) → IsSwept (shared_entry qp) (range_with_len 0 p ++ p ∷ []) (rights qp) (all_columns qp) (p + 1) s → IsSwept (shared_entry qp) (range_with_len 0 (p + 1)) (rights qp) (all_columns qp) (p + 1) s
  first_swept p s = subst (λ ps. IsSwept (shared_entry qp) ps (rights qp) (all_columns qp) (p + 1) s) (sym (one_more p))

  pub first_below : (p k : ℕ) → k < length (range_with_len 0 p) → get_or (range_with_len 0 p) k 0 < p
  first_below p k l = let h : k < p = omega (arith, length-range_with_len 0 p) in omega (arith, get_or-range_with_len 0 p k 0 h)

  -- the table as it is read
  agrees : (s : Swept) → IsSwept (entry (shared_table qp)) [] (rights qp) (all_columns qp) 0 s → IsSwept (shared_entry qp) [] (rights qp) (all_columns qp) 0 s
  unfolding swept
  agrees s is = record {
    rows_are = is.rows_are;
    columns_are = is.columns_are;
    told = is.told;
    table = is.table;
    whole = record {
      scale = is.whole.scale;
      numbers = is.whole.numbers;
      some_scale = is.whole.some_scale;
      small_scale = is.whole.small_scale;
      small = is.whole.small;
      entries = λ i j l k. sym (shared_at qp i j l k) ∙ is.whole.entries i j l k;
    };
    entries = λ i j l f k. sym (shared_at qp i j l k) ∙ is.entries i j l f k;
    rising = is.rising;
    within = is.within;
    columns_within = is.columns_within;
    pivots = λ k l. absurd (omega arith);
    fits = λ k i j l. absurd (omega arith);
  }

  pub read_table : (m : RationalMatrix) (s : Swept) → m ≡ shared_table qp → IsSwept (entry m) [] (height m) m.columns 0 s → IsSwept (shared_entry qp) [] (rights qp) (all_columns qp) 0 s
  read_table m s e is = agrees s (subst (λ r. IsSwept (entry (shared_table qp)) [] r (all_columns qp) 0 s) (shared_height qp)
      (subst (λ c. IsSwept (entry (shared_table qp)) [] (height (shared_table qp)) c 0 s) (shared_columns qp)
      (subst (λ m. IsSwept (entry m) [] (height m) m.columns 0 s) e is)))

  -- ---- lists of tables
  -- the first table of all
  pub tables_begin : (s : Swept) (new : List Swept) → new ≡ [] ++ s ∷ [] → IsSwept (shared_entry qp) (range_with_len 0 n) (rights qp) (all_columns qp) n s → AreTables qp [] 1 new
  tables_begin s new e is = subst (AreTables qp [] 1) (sym e) (record {
    few = omega arith;
    stored = omega arith;
    each = by;
  })
    where
      by : (k : ℕ) → k < 1 → (d : Swept) → IsTableOfFirst qp [] k (get_or (s ∷ []) k d)
      by zero h d first b = subst (λ ps. IsSwept (shared_entry qp) ps (rights qp) (all_columns qp) first s) (sym (append-nil (range_with_len 0 n))) (told_later (shared_entry qp) (range_with_len 0 n) (rights qp) (all_columns qp) n first s b.unknowns is)
      by (suc k) h d first b = absurd (omega arith)

  module _ (s : List ℕ) (count : ℕ) (tables : List Swept) (are : AreTables qp s count tables) where
    -- room behind them
    pub tables_room : (x : Swept) (new : List Swept) → new ≡ tables ++ x ∷ [] → AreTables qp s count new
    tables_room x new e = subst (AreTables qp s count) (sym e) (record {
      few = are.few;
      stored = let a = are.stored in omega (arith, length-append tables (x ∷ []));
      each = λ k l d. subst (IsTableOfFirst qp s k) (sym (get_or_append_left tables (x ∷ []) d k (let a = are.stored in omega arith))) (are.each k l d);
    })

    -- those of the members that another set has too
    pub tables_shared : (other : List ℕ) (shared new : ℕ) → shared ≤ length s → shared ≤ length other → take shared s ≡ take shared other → new ≤ count → new ≤ shared + 1 → AreTables qp other new tables
    tables_shared other shared new in_one in_other alike few at_most = record {
      few = omega arith;
      stored = let a = are.stored in omega arith;
      each = by;
    }
      where
        same_member : (i : ℕ) → i < shared → get_or other i 0 ≡ get_or s i 0
        same_member i l = sym (get_or-take shared other i 0 l) ∙ sym (ap (λ xs. get_or xs i 0) alike) ∙ get_or-take shared s i 0 l

        by : (k : ℕ) → k < new → (d : Swept) → IsTableOfFirst qp other k (get_or tables k d)
        by k l d first b =
            let h : k ≤ shared = omega arith in
            subst (λ xs. IsTableOf qp xs first (get_or tables k d)) (sym (take-take k shared s h) ∙ ap (take k) alike ∙ take-take k shared other h)
            (are.each k (omega arith) d first (record { unknowns = b.unknowns; members = λ i m. let c = b.members i m in omega (arith, same_member i (omega arith)) }))

    -- the sweep at member k + 1, by the table of those before it
    module _ (of_rows : IsSetOfRows (height qp.g) s) (k : ℕ) (served : k < count) (in_set : k < length s) (p : ℕ) (at : p ≡ n + (get_or s k 0 - 1)) (table : Swept) (d : Swept) (is : table ≡ get_or tables k d) where
      behind : IsBehind qp s k p
      behind =
          let m = (member (height qp.g) s of_rows k in_set).0 in
          record { unknowns = omega (arith, at); members = λ i l. let r = members_rise (height qp.g) s of_rows i k l in_set in omega (arith, at) }

      pub before : IsTableOf qp (take k s) p table
      before = subst (IsTableOf qp (take k s) p) (sym is) (are.each k served d p behind)

      pub pivot_within : p < rights qp
      pivot_within = let m = member (height qp.g) s of_rows k in_set in let a = m.0 in let b = m.1 in omega (arith, at)

      pub table_is : IsTable table
      table_is = before.table

      pub row_within : p < table.rows
      row_within = let a = pivot_within in omega (arith, before.rows_are)

      pub column_within : p < table.columns
      column_within = let a = pivot_within in omega (arith, before.columns_are)

      pub rights_within : rights qp ≤ table.columns
      rights_within = omega (arith, before.columns_are)

      rows_below : (i : ℕ) → i < length (sweeps_of qp (take k s)) → get_or (sweeps_of qp (take k s)) i 0 < p
      rows_below i l =
          let m = (member (height qp.g) s of_rows k in_set).0 in
          ⊎_elim
          (λ a. omega (arith, first_sweep qp (take k s) i a, at))
          (λ a.
          let b : i - n < k = omega (arith, sweeps_size qp (take k s), length-take-le k s (omega arith)) in
          let c : i - n < length (take k s) = omega (arith, length-take-le k s (omega arith)) in
          let e : i ≡ n + (i - n) = omega arith in
          let r = members_rise (height qp.g) s of_rows (i - n) k b in_set in
          let q = (member (height qp.g) s of_rows (i - n) (omega arith)).0 in
          omega (arith, ap (λ i. get_or (sweeps_of qp (take k s)) i 0) e, later_sweep qp (take k s) (i - n) c, get_or-take k s (i - n) 0 b, at))
          (cases_lt i n)

      -- where its number on the diagonal isn't 0, and it is the last one, all numbers fit, whatever the sweep leaves
      module _ (next : NextSweepFits) (last : length s ≡ k + 1) (some : number table p p ≢ pos 0) where
        all_sweeps : sweeps_of qp (take k s) ++ p ∷ [] ≡ sweeps_of qp s
        all_sweeps = ap (λ p. sweeps_of qp (take k s) ++ p ∷ []) at ∙ more_sweeps qp s k in_set ∙ ap (sweeps_of qp) (take_all (k + 1) s (omega arith))

        pub last_fits : HasPivots (shared_entry qp) (sweeps_of qp s) × SweepsFit (shared_entry qp) (sweeps_of qp s) (rights qp) (all_columns qp) (rights qp)
        last_fits =
            subst (λ ps. HasPivots (shared_entry qp) ps × SweepsFit (shared_entry qp) ps (rights qp) (all_columns qp) (rights qp)) all_sweeps
            (next (shared_entry qp) (sweeps_of qp (take k s)) (rights qp) (all_columns qp) p (rights qp) p table before pivot_within (let a = pivot_within in omega arith) (omega arith) pivot_within rows_below some)

      module _ (first : ℕ) (further : p < first) (out : Swept)
          (sweeps : (t : Table) (ps : List ℕ) (rows columns from : ℕ) → IsSwept t ps rows columns from table → from ≤ p → p < first → ((i : ℕ) → i < length ps → get_or ps i 0 < p) → IsSwept t (ps ++ p ∷ []) rows columns first out) where
        after : IsTableOf qp (take (k + 1) s) first out
        after =
            subst (λ ps. IsSwept (shared_entry qp) ps (rights qp) (all_columns qp) first out) (ap (λ p. sweeps_of qp (take k s) ++ p ∷ []) at ∙ more_sweeps qp s k in_set)
            (sweeps (shared_entry qp) (sweeps_of qp (take k s)) (rights qp) (all_columns qp) p before (omega arith) further rows_below)

        pub after_last : length s ≡ k + 1 → IsTableOf qp s first out
        after_last e = subst (λ xs. IsTableOf qp xs first out) (take_all (k + 1) s (omega arith)) after

      -- the list with one more table
      module _ (out : Swept) (room : count < length tables) (last : k + 1 ≡ count)
          (sweeps : (t : Table) (ps : List ℕ) (rows columns from : ℕ) → IsSwept t ps rows columns from table → from ≤ p → p < p + 1 → ((i : ℕ) → i < length ps → get_or ps i 0 < p) → IsSwept t (ps ++ p ∷ []) rows columns (p + 1) out) where
        pub tables_next : AreTables qp s (count + 1) (set tables count out)
        tables_next = record {
          few = omega arith;
          stored = omega (arith, length-set tables count out);
          each = λ i l d. ⊎_elim
              (λ e. subst (λ i. IsTableOfFirst qp s i (get_or (set tables count out) i d)) (sym e) (subst (IsTableOfFirst qp s count) (sym (get_or-set_same tables count out d room)) newest))
              (λ e. subst (IsTableOfFirst qp s i) (sym (get_or-set_other tables count i out d e)) (are.each i (omega arith) d))
              (cases_eq i count);
        }
          where
            newest : IsTableOfFirst qp s count out
            newest first b =
                let c = b.members k (omega arith) in
                let m = (member (height qp.g) s of_rows k in_set).0 in
                told_later (shared_entry qp) (sweeps_of qp (take count s)) (rights qp) (all_columns qp) (p + 1) first out (omega (arith, at))
                (subst (λ i. IsTableOf qp (take i s) (p + 1) out) last (after (p + 1) (omega arith) out sweeps))

    -- the table of no member shows the law of the set without members
    pub shows_none : (other : List ℕ) → 0 < count → length other ≤ 0 → (d : Swept) → IsTableOf qp other (rights qp) (get_or tables 0 d)
    shows_none other some none d =
        subst (λ xs. IsTableOf qp xs (rights qp) (get_or tables 0 d)) (sym (nil_from_length other (omega arith)))
        (are.each 0 some d (rights qp) (record { unknowns = omega arith; members = λ i l. absurd (omega arith) }))
