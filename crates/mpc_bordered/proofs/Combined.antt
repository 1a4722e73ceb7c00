-- Further columns beside the first ones of a table, and combinations of them.
use Rattle.std.proofs.Common.{◌≡◌, ◌≢◌, ℕ, zero, suc, ◌+◌, ◌-◌, ◌<◌, ◌≤◌, cond, nat_lt, [], ◌∷◌, Option, Some, None, IfSome, min, pos, refl, sym, ◌∙◌, ap, subst, subst₂, arith, ⊎_elim}
use Rattle.std.proofs.lemmas.Bool.{cases_eq, cases_lt, cond_below, cond_above}
use Rattle.mpc_exact.specs.Rational.{ℚ, int, ◌+ℚ◌, ◌*ℚ◌, ◌-ℚ◌, ◌/ℚ◌, neg_ℚ, inv_ℚ}
use Rattle.mpc_exact.proofs.RationalRing.{reads, by_ring}
use Rattle.mpc_frac.specs.Fits.{FitsFrac, FitsSum}
use Rattle.mpc_space.specs.Matrix.{RationalMatrix, entry}
use Rattle.mpc_space.specs.Total.{total}
use Rattle.mpc_space.proofs.Total.{total-same, total-zeros, total-split}
use Rattle.mpc_linear.specs.Elimination.{Table, augmented, reduced, eliminated, ColumnsDone}
use Rattle.mpc_linear.specs.EliminationTheorems.{EliminationAnswers}
use Rattle.mpc_linear.specs.Solution.{IsOnlySolution, FitsTo}
use Rattle.mpc_linear.specs.declared.elimination.Solved.TheVariants.{Unique}
use Rattle.mpc_bordered.specs.declared.kept.Kept.{Kept}
use Rattle.mpc_bordered.specs.Fronts.{front, HasFront, EntryFits}
use Rattle.mpc_bordered.specs.Kept.{IfFormed}
use Rattle.mpc_bordered.specs.Filling.{FillsTable}
use Rattle.mpc_bordered.specs.Stages.{IsStage, IsOpposite, IsNextNumber, widened, ColumnForms, combined, ChangeFits, IsCombined}
use Rattle.mpc_bordered.proofs.Agree.{Agree, reduced-pivot, reduced-other}
use Rattle.mpc_bordered.proofs.FrontLemmas.{front-zero, front-suc, eliminated_front, row_dot, pivot_dot, other_dot}
use Rattle.mpc_bordered.proofs.Formed.{formed_first}
use Rattle.mpc_bordered.proofs.Behind.{front_done}
use Rattle.mpc_bordered.proofs.Equal.{augmented_front, augmented_back}
use Rattle.mpc_bordered.proofs.Solving.{front_agree, entry_agree}

module _ (t : Table) (u : ℕ) (f : Table) where
  pub widened_first : (i j : ℕ) → j < u → widened t u f i j ≡ t i j
  unfolding widened
  widened_first i j l = sym (cond_below j u (t i j) (f i (j - u)) l)

  pub widened_behind : (i j : ℕ) → widened t u f i (u + j) ≡ f i j
  unfolding widened
  widened_behind i j =
      sym (cond_above (u + j) u (t i (u + j)) (f i (u + j - u)) (f i (u + j - u)) (omega arith) refl)
      ∙ (let e : u + j - u ≡ j = omega arith in ap (λ k. f i k) e)

  pub fronts : (c : ℕ) → c ≤ u → Agree u u (front (widened t u f) c) (front t c)
  fronts = front_agree u u (widened t u f) t (omega arith) (λ i j hi hj. widened_first i j hj)

  pub entries_fit : (c i j : ℕ) → c < u → i < u → j < u → EntryFits c (front t c) i j → EntryFits c (front (widened t u f) c) i j
  entries_fit c i j hc hi hj h = entry_agree u u c (front (widened t u f) c) (front t c) hc hc (fronts c (omega arith)) i j hi hj h

  pub formed_widened : (c i j : ℕ) (o : Option ℚ) → c ≤ u → i < u → j < u → IfFormed t c i j o → IfFormed (widened t u f) c i j o
  formed_widened c i j None hc hi hj h = tt
  formed_widened c i j (Some v) hc hi hj h = record {
    value = h.value ∙ sym (fronts c hc i j hi hj);
    fits = h.fits;
    before = λ k l. entries_fit k i j (omega arith) hi hj (h.before k l);
  }

-- what is kept of column c is formed with the columns before it
pub kept_widened : (t : Table) (u : ℕ) (f : Table) (c i : ℕ) (o : Option ℚ) → c < u → i < u → IfFormed t (min c u) i c o → IfFormed (widened t u f) c i c o
kept_widened t u f c i o hc hi h = let e : min c u ≡ c = omega arith in formed_widened t u f c i c o (omega arith) hi hc (subst (λ k. IfFormed t k i c o) e h)

pub column_forms : (t : Table) (u c i : ℕ) (v : ℚ) → c < u → IfFormed t (min c u) i c (Some v) → (k : ℕ) → k < c → EntryFits k (front t k) i c
column_forms t u c i v hc h k l = let e : min c u ≡ c = omega arith in h.before k (omega arith)

pub next_of : (t : Table) (u : ℕ) (s : RationalMatrix) (c i j : ℕ) (o : Option ℚ) → ((f : Table) → IsStage t u f s.columns c s → IfFormed (widened t u f) (suc c) i (u + j) o) → IfSome o (IsNextNumber t u s c i j)
next_of t u s c i j None h = tt
next_of t u s c i j (Some v) h = h

-- the columns with the other sign, before any column is eliminated
pub opposite_stage : (t : Table) (u columns : ℕ) (s out : RationalMatrix) → FillsTable (IsOpposite s) u columns out → IsStage t u (λ i j. neg_ℚ (entry s i j)) columns 0 out
opposite_stage t u columns s out h = record {
  shape = h.shape;
  entries = λ i j hi hj. formed_first (widened t u (λ i j. neg_ℚ (entry s i j))) i (u + j) (entry out i j) ((h.entries i j hi hj).value ∙ sym (widened_behind t u (λ i j. neg_ℚ (entry s i j)) i j)) (h.entries i j hi hj).fits;
}

-- ---- a combination of the further columns
module _ (t : Table) (u : ℕ) (f : Table) (columns : ℕ) (z : ℕ → ℚ) where
  -- the combination as a column
  abbrev together : Table
  together i j = total columns (λ j. f i j *ℚ z j)

  abbrev apart : ℕ → Table
  apart c = front (widened t u f) c

  abbrev one : ℕ → Table
  one c = front (widened t u together) c

  abbrev width : ℕ
  width = u + columns

  factors : ℕ → ℚ
  factors k = cond (nat_lt k u) (int (pos 0)) (z (k - u))

  factor_first : (k : ℕ) → k < u → factors k ≡ int (pos 0)
  unfolding factors
  factor_first k l = sym (cond_below k u (int (pos 0)) (z (k - u)) l)

  factor_behind : (k : ℕ) → factors (u + k) ≡ z k
  unfolding factors
  factor_behind k =
      sym (cond_above (u + k) u (int (pos 0)) (z (u + k - u)) (z (u + k - u)) (omega arith) refl)
      ∙ (let e : u + k - u ≡ k = omega arith in ap z e)

  factors_dot : (s : Table) (i : ℕ) → row_dot width s factors i ≡ total columns (λ j. s i (u + j) *ℚ z j)
  factors_dot s i =
      total-split u columns (λ k. s i k *ℚ factors k)
      ∙ (λ m. total-zeros u (λ k. s i k *ℚ factors k) (λ k h. ap (λ v. s i k *ℚ v) (factor_first k h) ∙ by_ring (s i k ∷ []) (search reads depth 30) (search reads depth 30) tt) m
      +ℚ total-same columns (λ j. s i (u + j) *ℚ factors (u + j)) (λ j. s i (u + j) *ℚ z j) (λ j h. ap (λ v. s i (u + j) *ℚ v) (factor_behind j)) m)
      ∙ by_ring (total columns (λ j. s i (u + j) *ℚ z j) ∷ []) (search reads depth 30) (search reads depth 30) tt

  same_entry : (c i : ℕ) → c < u → i < u → one c i c ≡ apart c i c
  same_entry c i hc hi = fronts t u together c (omega arith) i c hi hc ∙ sym (fronts t u f c (omega arith) i c hi hc)

  swapped : (a p : ℚ) → a *ℚ p ≡ p *ℚ a
  swapped a p = by_ring (a ∷ p ∷ []) (search reads depth 30) (search reads depth 30) tt

  less_twice : (x p : ℚ) → x -ℚ (x -ℚ p) ≡ p
  less_twice x p = by_ring (x ∷ p ∷ []) (search reads depth 30) (search reads depth 30) tt

  taken_away : (x a y p : ℚ) → x -ℚ a *ℚ (y *ℚ p) ≡ x +ℚ neg_ℚ (a *ℚ p) *ℚ y
  taken_away x a y p = by_ring (x ∷ a ∷ y ∷ p ∷ []) (search reads depth 30) (search reads depth 30) tt

  stays_combined : (c : ℕ) → c ≤ u → (i : ℕ) → i < u → one c i (u + 0) ≡ row_dot width (apart c) factors i
  stays_combined zero l i hi =
      ap (λ a. a i (u + 0)) (front-zero (widened t u together)) ∙ widened_behind t u together i 0
      ∙ total-same columns (λ j. f i j *ℚ z j) (λ j. widened t u f i (u + j) *ℚ z j) (λ j h. ap (λ v. v *ℚ z j) (sym (widened_behind t u f i j)))
      ∙ sym (ap (λ a. row_dot width a factors i) (front-zero (widened t u f)) ∙ factors_dot (widened t u f) i)
  stays_combined (suc c) l i hi =
      let hc : c < u = omega arith in
      let before = stays_combined c (omega arith) in
      let step : reduced c (one c) i (u + 0) ≡ row_dot width (reduced c (apart c)) factors i =
      ⊎_elim
      (λ e. reduced-pivot c (one c) i (u + 0) e
      ∙ (λ m. before c hc m *ℚ inv_ℚ (same_entry c c hc hc m)) ∙ swapped (row_dot width (apart c) factors c) (inv_ℚ (apart c c c))
      ∙ sym (pivot_dot u width c (apart c) factors)
      ∙ ap (row_dot width (reduced c (apart c)) factors) (sym e))
      (λ e. reduced-other c (one c) i (u + 0) e
      ∙ (λ m. before i hi m -ℚ same_entry c i hc hi m *ℚ (before c hc m *ℚ inv_ℚ (same_entry c c hc hc m)))
      ∙ taken_away (row_dot width (apart c) factors i) (apart c i c) (row_dot width (apart c) factors c) (inv_ℚ (apart c c c))
      ∙ sym (other_dot u width c (apart c) factors i e))
      (cases_eq i c)
      in
      ap (λ a. a i (u + 0)) (front-suc (widened t u together) c) ∙ step ∙ ap (λ a. row_dot width a factors i) (sym (front-suc (widened t u f) c))

  pub number : (c i : ℕ) → c ≤ u → i < u → one c i (u + 0) ≡ combined t u f columns z c i
  number c i l hi = stays_combined c l i hi ∙ factors_dot (apart c) i

  pub right_fits : (c i : ℕ) → c < u → i < u → ChangeFits (combined t u f columns z c i) (combined t u f columns z (suc c) i) → EntryFits c (one c) i (u + 0)
  right_fits c i hc hi h =
      let old = number c i (omega arith) hi in
      let new = sym (number (suc c) i (omega arith) hi) ∙ ap (λ a. a i (u + 0)) (front-suc (widened t u together) c) in
      let product = one c i c *ℚ (one c c (u + 0) /ℚ one c c c) in
      let taken : i ≢ c → combined t u f columns z c i -ℚ combined t u f columns z (suc c) i ≡ product =
      λ e. (λ m. sym old m -ℚ (new ∙ reduced-other c (one c) i (u + 0) e) m) ∙ less_twice (one c i (u + 0)) product
      in
      record {
        quotient = λ e. subst FitsFrac (new ∙ reduced-pivot c (one c) i (u + 0) e) h.quotient;
        product = λ e some. subst FitsFrac (taken e) h.product;
        difference = λ e some. subst₂ (λ x y. FitsSum x (neg_ℚ y)) (sym old) (taken e) h.difference;
      }

-- ---- the system
module _ (answers : EliminationAnswers) (k : Kept) (f : Table) (columns : ℕ) (z : ℕ → ℚ) (m rhs x : RationalMatrix) (is : IsCombined (entry k.table) k.front f columns z m rhs x)
    (forms : (c : ℕ) → c < k.front → ColumnForms (entry k.table) k.front c)
    (changes : (c i : ℕ) → c < k.front → i < k.front → ChangeFits (combined (entry k.table) k.front f columns z c i) (combined (entry k.table) k.front f columns z (suc c) i)) where
  abbrev n : ℕ
  n = k.front

  abbrev a : Table
  a = augmented m rhs

  abbrev g : Table
  g i j = total columns (λ j. f i j *ℚ z j)

  abbrev s : Table
  s = widened (entry k.table) n g

  table_is : Agree n (n + 1) a s
  table_is i j hi hj = ⊎_elim
      (λ l. augmented_front m rhs i j (omega (arith, is.shape.columns_are)) ∙ is.entries i j hi l ∙ sym (widened_first (entry k.table) n g i j l))
      (λ l.
      let q : j ≡ m.columns + 0 = omega (arith, is.shape.columns_are) in
      let e : j ≡ n + 0 = omega arith in
      ap (a i) q ∙ augmented_back m rhs i 0 ∙ is.right_entries i hi ∙ sym (widened_behind (entry k.table) n g i 0) ∙ ap (s i) (sym e))
      (cases_lt j n)

  fronts_are : (c : ℕ) → c ≤ n → Agree n (n + 1) (front a c) (front s c)
  fronts_are = front_agree n (n + 1) a s (omega arith) table_is

  pivots : HasFront a n
  pivots c l e = k.kept.pivots c l (sym (fronts_are c (omega arith) c c l (omega arith) ∙ fronts (entry k.table) n g c (omega arith) c c l l) ∙ e)

  all_fit : (c i j : ℕ) → c < n → i < n → c < j → j < n + 1 → EntryFits c (front a c) i j
  all_fit c i j hc hi l hj =
      entry_agree n (n + 1) c (front a c) (front s c) hc (omega arith) (fronts_are c (omega arith)) i j hi hj
      (⊎_elim
      (λ b. entries_fit (entry k.table) n g c i j hc hi b (forms j b c i l hi))
      (λ b. let e : j ≡ n + 0 = omega arith in subst (EntryFits c (front s c) i) (sym e) (right_fits (entry k.table) n f columns z c i hc hi (changes c i hc hi)))
      (cases_lt j n))

  done : ColumnsDone n (n + 1) a n
  done c l = (c, front_done n (n + 1) n a (omega arith) pivots all_fit c l)

  pub fits : FitsTo m rhs (Unique x)
  fits = subst₂ (λ n w. ColumnsDone n (n + w) a n) (sym is.shape.columns_are) (sym is.right_shape.columns_are) done

  left_at : (i : ℕ) → i < n → entry x i 0 ≡ eliminated n a n i (n + 0)
  left_at i hi =
      is.solution_entries i hi ∙ sym (number (entry k.table) n f columns z n i (omega arith) hi)
      ∙ sym (fronts_are n (omega arith) i (n + 0) hi (omega arith))
      ∙ sym (ap (λ b. b i (n + 0)) (eliminated_front n n a (omega arith) pivots))

  pub only : IsOnlySolution m rhs x
  only = answers m rhs (Unique x)
      (record { rectangular = is.shape.rectangular; right_rectangular = is.right_shape.rectangular; square = is.shape.rows_are ∙ sym is.shape.columns_are; rows = is.right_shape.rows_are ∙ sym is.shape.rows_are })
      fits
      (record {
        shape = record { rows_are = is.solution_shape.rows_are ∙ sym is.shape.columns_are; columns_are = is.solution_shape.columns_are ∙ sym is.right_shape.columns_are; rectangular = is.solution_shape.rectangular };
        entries = λ i j hi hj.
            let e : j ≡ 0 = omega (arith, hj, is.right_shape.columns_are) in
            ap (entry x i) e ∙ subst (λ n. entry x i 0 ≡ eliminated n a n i (n + 0)) (sym is.shape.columns_are) (left_at i (omega (arith, hi, is.shape.columns_are)))
            ∙ ap (λ j. eliminated m.columns a m.columns i (m.columns + j)) (sym e);
      })
