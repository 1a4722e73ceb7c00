-- What a swept table says of the systems of its parts.
use Rattle.std.proofs.Common.{◌≡◌, ℕ, suc, ◌+◌, ◌-◌, ◌<◌, ◌≤◌, cond, ltb, List, length, take, pos, sym, ◌∙◌, ap, subst, subst₂, arith, ◌⊎◌, inl, inr, ⊎_elim}
use Rattle.std.proofs.lemmas.Bool.{cond-true, cond-false, cases_eq, cases_lt, lt-ltb}
use Rattle.std.proofs.lemmas.Bool.Decides.{nat_tests}
use Rattle.std.proofs.lemmas.List.{length-take-le}
use Rattle.mpc_exact.specs.Rational.{int}
use Rattle.mpc_space.specs.Matrix.{RationalMatrix, entry}
use Rattle.mpc_linear.specs.Elimination.{Table, augmented, EndsDependent}
use Rattle.mpc_linear.specs.EliminationTheorems.{IsSquareSystem, IsReadOff, EliminationAnswers}
use Rattle.mpc_linear.specs.Solution.{IsAnswer, FitsTo, width}
use Rattle.mpc_linear.specs.declared.elimination.Solved.TheVariants.{Unique, Dependent}
use Rattle.mpc_bordered.specs.Fronts.{EntryFits}
use Rattle.mpc_sweep.specs.Sweeps.{swept, pivot_at, before, HasPivots, AreRising, SweepsFit}
use Rattle.mpc_sweep.specs.Theorems.{IsPartOf, IsSolutionOf, AreRowsOf, PartIsSolved, PartIsDependent}
use Rattle.mpc_sweep.proofs.Sequence.{IsPartOfSweeps, agrees, columns_done, ends_dependent}
use Rattle.mpc_sweep.proofs.Befores.{before-zero, before-suc, before-all, before_taken, pivot_taken}

-- which column of the table stands in column j of the part: one of the rows' columns, or a right side
unfoldable column_of : List ℕ → ℕ → ℕ → ℕ → ℕ
column_of ps first n j = cond (ltb j n) (pivot_at ps j) (first + (j - n))

column-front : (ps : List ℕ) (first n j : ℕ) → j < n → column_of ps first n j ≡ pivot_at ps j
unfolding column_of
column-front ps first n j h = cond-true (ltb j n) (pivot_at ps j) (first + (j - n)) (lt-ltb j n h)

column-back : (ps : List ℕ) (first n j : ℕ) → n ≤ j → column_of ps first n j ≡ first + (j - n)
unfolding column_of
column-back ps first n j h = cond-false (ltb j n) (pivot_at ps j) (first + (j - n)) (grind (arith, nat_tests))

augmented-front : (m rhs : RationalMatrix) (i j : ℕ) → j < m.columns → augmented m rhs i j ≡ entry m i j
unfolding augmented
augmented-front m rhs i j h = cond-true (ltb j m.columns) (entry m i j) (entry rhs i (j - m.columns)) (lt-ltb j m.columns h)

augmented-back : (m rhs : RationalMatrix) (i j : ℕ) → m.columns ≤ j → augmented m rhs i j ≡ entry rhs i (j - m.columns)
unfolding augmented
augmented-back m rhs i j h = cond-false (ltb j m.columns) (entry m i j) (entry rhs i (j - m.columns)) (grind (arith, nat_tests))

rising_distinct : (ps : List ℕ) → AreRising ps → (i j : ℕ) → i < length ps → j < length ps → pivot_at ps i ≡ pivot_at ps j → i ≡ j
rising_distinct ps rising i j hi hj e = by (cases_eq i j) (cases_lt i j)
  where
    by : (i ≡ j) ⊎ (i ≡ j → ⊥) → (i < j) ⊎ (j ≤ i) → i ≡ j
    by (inl q) l = q
    by (inr q) (inl l) = let r = rising i j l hj in absurd (omega arith)
    by (inr q) (inr l) = let k : j < i = omega arith in let r = rising j i k hi in absurd (omega arith)

module _ (t : Table) (ps : List ℕ) (rows first count : ℕ) (m rhs : RationalMatrix) (are : AreRowsOf rows ps first) (part : IsPartOf t ps first count m rhs) where
  abbrev n : ℕ
  n = length ps

  columns_are : m.columns ≡ n
  columns_are = part.shape.columns_are

  rights_are : rhs.columns ≡ count
  rights_are = part.right_shape.columns_are

  abbrev column : ℕ → ℕ
  column = column_of ps first m.columns

  in_part : (i : ℕ) → i < m.columns → i < n
  in_part i h = let e = columns_are in omega arith

  is_system : IsSquareSystem m rhs
  is_system = record {
    rectangular = part.shape.rectangular;
    right_rectangular = part.right_shape.rectangular;
    square = part.shape.rows_are ∙ sym columns_are;
    rows = part.right_shape.rows_are ∙ sym part.shape.rows_are;
  }

  start : (i j : ℕ) → i < m.columns → j < width m rhs → augmented m rhs i j ≡ before t ps 0 (pivot_at ps i) (column j)
  start i j hi hj = by (cases_lt j m.columns) ∙ sym (ap (λ z. z (pivot_at ps i) (column j)) (before-zero t ps))
    where
      by : (j < m.columns) ⊎ (m.columns ≤ j) → augmented m rhs i j ≡ t (pivot_at ps i) (column j)
      by (inl l) = augmented-front m rhs i j l ∙ part.entries i j (in_part i hi) (in_part j l) ∙ ap (t (pivot_at ps i)) (sym (column-front ps first m.columns j l))
      by (inr l) =
          let e = rights_are in
          augmented-back m rhs i j l ∙ part.right_entries i (j - m.columns) (in_part i hi) (omega arith) ∙ ap (t (pivot_at ps i)) (sym (column-back ps first m.columns j l))

  -- where column j of the part stands in the table
  record StandsAt (c j : ℕ) : Type 0 where
    pub behind : pivot_at ps c < column j
    pub next : suc c < n → pivot_at ps (suc c) ≤ column j
    pub rights : suc c ≡ n → first ≤ column j
    pub inside : column j < first + count

  stands_at : (c j : ℕ) → c < n → c < j → j < width m rhs → StandsAt c j
  stands_at c j hc l hj = by (cases_lt j m.columns)
    where
      by : (j < m.columns) ⊎ (m.columns ≤ j) → StandsAt c j
      by (inl h) =
          let e = column-front ps first m.columns j h in
          let q = columns_are in
          let f = are.in_front j (in_part j h) in
          let r = are.rising c j l (in_part j h) in
          record {
            behind = omega arith;
            next = λ k. ⊎_elim
                (λ a. let b = are.rising (suc c) j a (in_part j h) in omega arith)
                (λ a. let b : suc c ≡ j = omega arith in let d = ap (pivot_at ps) b in omega arith)
                (cases_lt (suc c) j);
            rights = λ k. absurd (omega arith);
            inside = omega arith;
          }
      by (inr h) =
          let e = column-back ps first m.columns j h in
          let q = columns_are in
          let r = rights_are in
          let f = are.in_front c hc in
          record {
            behind = omega arith;
            next = λ k. let g = are.in_front (suc c) k in omega arith;
            rights = λ k. omega arith;
            inside = omega arith;
          }

  -- the part, of which u columns are swept
  is_part : (u : ℕ) → u ≤ n → ((c : ℕ) → c < u → before t ps c (pivot_at ps c) (pivot_at ps c) ≡ int (pos 0) → ⊥)
      → ((c i j : ℕ) → c < u → i < n → StandsAt c j → EntryFits (pivot_at ps c) (before t ps c) (pivot_at ps i) (column j))
      → IsPartOfSweeps m.columns (width m rhs) u (augmented m rhs) (before t ps) (pivot_at ps) column
  is_part u l pivots fits = record {
    within = let e = columns_are in omega arith;
    square = omega arith;
    start = start;
    sweeps = λ c h. before-suc t ps c (omega arith);
    front = λ c h. column-front ps first m.columns c h;
    distinct = λ i j hi hj. rising_distinct ps are.rising i j (in_part i hi) (in_part j hj);
    pivots = pivots;
    fits = λ c i j hc hi k hj. fits c i j hc (in_part i hi) (stands_at c j (omega arith) k hj);
  }

  -- ---- all columns
  sweeps_done : HasPivots t ps → SweepsFit t ps rows (first + count) first → IsPartOfSweeps m.columns (width m rhs) m.columns (augmented m rhs) (before t ps) (pivot_at ps) column
  sweeps_done pivots fits =
      is_part m.columns (let e = columns_are in omega arith) (λ c h. pivots c (in_part c h))
      (λ c i j hc hi s. fits c (pivot_at ps i) (column j) (in_part c hc) (are.within i hi) s.behind s.next s.rights s.inside)

  is_read_off : (x : RationalMatrix) → IsPartOfSweeps m.columns (width m rhs) m.columns (augmented m rhs) (before t ps) (pivot_at ps) column → IsSolutionOf t ps first count x → IsReadOff m rhs x
  is_read_off x sweeps solution = record {
    shape = record { rows_are = solution.shape.rows_are ∙ sym columns_are; columns_are = solution.shape.columns_are ∙ sym rights_are; rectangular = solution.shape.rectangular };
    entries = λ i j hi hj.
        let e = rights_are in
        let place : m.columns + j - m.columns ≡ j = omega arith in
        solution.entries i j (in_part i hi) (omega arith)
        ∙ sym (agrees m.columns (width m rhs) m.columns (augmented m rhs) (before t ps) (pivot_at ps) column sweeps m.columns (omega arith) i (m.columns + j) hi (omega arith)
        ∙ (λ z. before t ps (columns_are z) (pivot_at ps i) (column-back ps first m.columns (m.columns + j) (omega arith) z))
        ∙ (λ z. before-all t ps z (pivot_at ps i) (first + place z)));
  }

  solved : EliminationAnswers → HasPivots t ps → SweepsFit t ps rows (first + count) first → (x : RationalMatrix) → IsSolutionOf t ps first count x → IsAnswer m rhs (Unique x) × FitsTo m rhs (Unique x)
  solved answers pivots fits x solution =
      let sweeps = sweeps_done pivots fits in
      let done : FitsTo m rhs (Unique x) = columns_done m.columns (width m rhs) m.columns (augmented m rhs) (before t ps) (pivot_at ps) column sweeps in
      (answers m rhs (Unique x) is_system done (is_read_off x sweeps solution), done)

  -- ---- all columns but the last
  module _ (k : ℕ) (last : n ≡ suc k) where
    taken : length (take k ps) ≡ k
    taken = length-take-le k ps (omega arith)

    taken_fit : SweepsFit t (take k ps) rows (first + count) (pivot_at ps k) → (c i j : ℕ) → c < k → i < n → StandsAt c j → EntryFits (pivot_at ps c) (before t ps c) (pivot_at ps i) (column j)
    taken_fit fits c i j hc hi s =
        let e = taken in
        let q = pivot_taken ps k c hc in
        let b = s.behind in
        subst₂ (λ p z. EntryFits p z (pivot_at ps i) (column j)) q (before_taken t ps k c (omega arith))
        (fits c (pivot_at ps i) (column j) (omega arith) (are.within i hi) (omega arith)
        (λ h. let f = pivot_taken ps k (suc c) (omega arith) in let g = s.next (omega arith) in omega arith)
        (λ h. let f : suc c ≡ k = omega arith in subst (λ l. pivot_at ps l ≤ column j) f (s.next (omega arith)))
        s.inside)

    taken_pivots : HasPivots t (take k ps) → (c : ℕ) → c < k → before t ps c (pivot_at ps c) (pivot_at ps c) ≡ int (pos 0) → ⊥
    taken_pivots pivots c hc e =
        let l = taken in
        let q = pivot_taken ps k c hc in
        pivots c (omega arith) ((λ z. before_taken t ps k c (omega arith) z (q z) (q z)) ∙ e)

    dependent_here : EliminationAnswers → HasPivots t (take k ps) → SweepsFit t (take k ps) rows (first + count) (pivot_at ps k) → swept t (take k ps) (pivot_at ps k) (pivot_at ps k) ≡ int (pos 0)
        → IsAnswer m rhs (Dependent (suc k)) × FitsTo m rhs (Dependent (suc k))
    dependent_here answers pivots fits none =
        let sweeps = is_part k (omega arith) (taken_pivots pivots) (taken_fit fits) in
        let ends : EndsDependent m.columns (width m rhs) (augmented m rhs) k = ends_dependent m.columns (width m rhs) k (augmented m rhs) (before t ps) (pivot_at ps) column sweeps (columns_are ∙ last) none in
        let fit : FitsTo m rhs (Dependent (suc k)) = (k, omega arith, ends) in
        (answers m rhs (Dependent (suc k)) is_system fit tt, fit)

pub part_is_solved : EliminationAnswers → PartIsSolved
part_is_solved answers t ps rows first count m rhs x are part pivots fits solution = solved t ps rows first count m rhs are part answers pivots fits x solution

pub part_is_dependent : EliminationAnswers → PartIsDependent
part_is_dependent answers t ps rows first count k m rhs are part last pivots fits none = dependent_here t ps rows first count m rhs are part k last answers pivots fits none
