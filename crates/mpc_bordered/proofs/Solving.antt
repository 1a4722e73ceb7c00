-- What is solved for the numbers of a part is solved for its system.
use Rattle.std.proofs.Common.{◌≡◌, ℕ, zero, suc, ◌+◌, ◌-◌, ◌<◌, ◌≤◌, List, length, sym, ◌∙◌, ap, subst, subst₂, arith, ⊎_elim}
use Rattle.std.proofs.lemmas.Bool.{cases_lt}
use Rattle.mpc_exact.specs.Rational.{◌*ℚ◌, ◌/ℚ◌, neg_ℚ}
use Rattle.mpc_frac.specs.Fits.{FitsFrac, FitsSum}
use Rattle.mpc_space.specs.Matrix.{RationalMatrix, height, entry}
use Rattle.mpc_linear.specs.Elimination.{Table, augmented, ColumnsDone, EndsDependent, EndsWide}
use Rattle.mpc_linear.specs.Solution.{IsAnswer, FitsTo, IsWideColumn}
use Rattle.mpc_linear.specs.declared.elimination.Solved.{Solved}
use Rattle.mpc_linear.specs.declared.elimination.Solved.TheVariants.{Unique, Dependent}
use Rattle.mpc_bordered.specs.Fronts.{front, HasFront, EntryFits}
use Rattle.mpc_bordered.specs.Parts.{part, ArePlaces, IsPart, IsPicked, PicksTable}
use Rattle.mpc_bordered.proofs.Agree.{Agree, reduced_agree}
use Rattle.mpc_bordered.proofs.FrontLemmas.{front-zero, front-suc}
use Rattle.mpc_bordered.proofs.Behind.{all_done, ends_dependent, ends_wide}
use Rattle.mpc_bordered.proofs.Equal.{augmented_front, augmented_back, IsSystem, only_back, only_to, first_back}
use Rattle.mpc_bordered.proofs.Picking.{part_front}

pub front_agree : (n w : ℕ) (t s : Table) → n ≤ w → Agree n w t s → (c : ℕ) → c ≤ n → Agree n w (front t c) (front s c)
front_agree n w t s q h zero l = λ i j hi hj. ap (λ a. a i j) (front-zero t) ∙ h i j hi hj ∙ ap (λ a. a i j) (sym (front-zero s))
front_agree n w t s q h (suc c) l = λ i j hi hj.
    ap (λ a. a i j) (front-suc t c) ∙ reduced_agree n w c (front t c) (front s c) (omega arith) (omega arith) (front_agree n w t s q h c (omega arith)) i j hi hj
    ∙ ap (λ a. a i j) (sym (front-suc s c))

pub entry_agree : (n w c : ℕ) (t s : Table) → c < n → c < w → Agree n w t s → (i j : ℕ) → i < n → j < w → EntryFits c s i j → EntryFits c t i j
entry_agree n w c t s hc hw h i j hi hj f = record {
  quotient = λ e. subst FitsFrac (λ m. sym (h c j hc hj) m /ℚ sym (h c c hc hw) m) (f.quotient e);
  product = λ e some. subst FitsFrac (λ m. sym (h i c hi hw) m *ℚ (sym (h c j hc hj) m /ℚ sym (h c c hc hw) m)) (f.product e (λ z. some (h i c hi hw ∙ z)));
  difference = λ e some. subst₂ (λ x y. FitsSum x (neg_ℚ y)) (sym (h i j hi hj)) (λ m. sym (h i c hi hw) m *ℚ (sym (h c j hc hj) m /ℚ sym (h c c hc hw) m)) (f.difference e (λ z. some (h i c hi hw ∙ z)));
}

module _ (t : RationalMatrix) (u : ℕ) (rows rights : List ℕ) (places : ArePlaces t u rows rights) (rows_enough : u ≤ height t) (columns_enough : u ≤ t.columns) (pivots : HasFront (entry t) u) (a b : RationalMatrix)
    (left : PicksTable (part (entry t) u rows rights) u 0 (u + length rows) (u + length rows) a)
    (right : PicksTable (part (entry t) u rows rights) u (u + length rows) (u + length rows) (length rights) b)
    (m rhs : RationalMatrix) (is : IsPart t u rows rights m rhs) where
  abbrev n : ℕ
  n = u + length rows

  abbrev w : ℕ
  w = length rights

  abbrev p : Table
  p = part (entry t) u rows rights

  front_of : (m rhs : RationalMatrix) (i j : ℕ) → m.columns ≡ n → j < n → augmented m rhs i j ≡ entry m i j
  front_of m rhs i j e h = augmented_front m rhs i j (omega arith)

  back_of : (m rhs : RationalMatrix) (i j : ℕ) → m.columns ≡ n → n ≤ j → augmented m rhs i j ≡ entry rhs i (j - n)
  back_of m rhs i j e h =
      let q : m.columns + (j - n) ≡ j = omega arith in
      ap (augmented m rhs i) (sym q) ∙ augmented_back m rhs i (j - n)

  table_is : Agree n (n + w) (augmented m rhs) p
  table_is i j hi hj = ⊎_elim
      (λ l. front_of m rhs i j is.shape.columns_are l ∙ is.entries i j hi l)
      (λ l. let q : n + (j - n) ≡ j = omega arith in back_of m rhs i j is.shape.columns_are l ∙ is.right_entries i (j - n) hi (omega arith) ∙ ap (p i) q)
      (cases_lt j n)

  picked : (i j : ℕ) → i < n → j < n + w → IsPicked p u i j (augmented a b i j)
  picked i j hi hj = ⊎_elim
      (λ l. let q : 0 + j ≡ j = omega arith in subst₂ (IsPicked p u i) q (sym (front_of a b i j left.shape.columns_are l)) (left.entries i j hi l))
      (λ l. let q : n + (j - n) ≡ j = omega arith in subst₂ (IsPicked p u i) q (sym (back_of a b i j left.shape.columns_are l)) (right.entries i (j - n) hi (omega arith)))
      (cases_lt j n)

  fronts : (c : ℕ) → c ≤ u → Agree n (n + w) (front (augmented m rhs) c) (front p c)
  fronts c l = front_agree n (n + w) (augmented m rhs) p (omega arith) table_is c (omega arith)

  has_front : HasFront (augmented m rhs) u
  has_front c l e = part_front t u rows rights places rows_enough columns_enough pivots c l (sym (fronts c (omega arith) c c (omega arith) (omega arith)) ∙ e)

  entries_fit : (c i j : ℕ) → c < u → i < n → c < j → j < n + w → EntryFits c (front (augmented m rhs) c) i j
  entries_fit c i j hc hi l hj = entry_agree n (n + w) c (front (augmented m rhs) c) (front p c) (omega arith) (omega arith) (fronts c (omega arith)) i j hi hj ((picked i j hi hj).before c hc l)

  same : Agree n (n + w) (augmented a b) (front (augmented m rhs) u)
  same i j hi hj = (picked i j hi hj).value ∙ sym (fronts u (omega arith) i j hi hj)

  small : (i j : ℕ) → i < n → j < n + w → FitsFrac (augmented a b i j)
  small i j hi hj = (picked i j hi hj).fits

  system : IsSystem m rhs n w
  system = record { rectangular = is.shape.rectangular; right_rectangular = is.right_shape.rectangular; height_is = is.shape.rows_are; columns_are = is.shape.columns_are; right_height = is.right_shape.rows_are; right_columns = is.right_shape.columns_are }

  kept_system : IsSystem a b n w
  kept_system = record { rectangular = left.shape.rectangular; right_rectangular = right.shape.rectangular; height_is = left.shape.rows_are; columns_are = left.shape.columns_are; right_height = right.shape.rows_are; right_columns = right.shape.columns_are }

  within : u ≤ n
  within = omega arith

  done_to : (c : ℕ) → c ≤ n → ColumnsDone n (n + w) (augmented a b) c → ColumnsDone n (n + w) (augmented m rhs) c
  done_to = all_done n (n + w) u (augmented m rhs) (augmented a b) within (omega arith) has_front entries_fit same small

  dependent_to : (c : ℕ) → EndsDependent n (n + w) (augmented a b) c → EndsDependent n (n + w) (augmented m rhs) c
  dependent_to = ends_dependent n (n + w) u (augmented m rhs) (augmented a b) within (omega arith) has_front entries_fit same small

  wide_to : (c : ℕ) → EndsWide n (n + w) (augmented a b) c → EndsWide n (n + w) (augmented m rhs) c
  wide_to = ends_wide n (n + w) u (augmented m rhs) (augmented a b) within (omega arith) has_front entries_fit same small

  pub answers : (s : Solved) → IsAnswer a b s → IsAnswer m rhs s
  answers (Unique x) o = only_back n w u m rhs a b system kept_system within has_front same x o
  answers (Dependent column) d = (
    d.0,
    d.1,
    first_back n w u m rhs a b system kept_system within has_front same d.0 d.2,
    λ some x o. d.3 (omega (arith, is.right_shape.columns_are, right.shape.columns_are)) x (only_to n w u m rhs a b system kept_system within has_front same x o),
  )

  sized : (P : ℕ → ℕ → Type 0) (m rhs : RationalMatrix) → IsSystem m rhs n w → P m.columns rhs.columns → P n w
  sized P m rhs s h = subst₂ P s.columns_are s.right_columns h

  unsized : (P : ℕ → ℕ → Type 0) (m rhs : RationalMatrix) → IsSystem m rhs n w → P n w → P m.columns rhs.columns
  unsized P m rhs s h = subst₂ P (sym s.columns_are) (sym s.right_columns) h

  pub fits : (s : Solved) → FitsTo a b s → FitsTo m rhs s
  fits (Unique x) d =
      unsized (λ n w. ColumnsDone n (n + w) (augmented m rhs) n) m rhs system
      (done_to n (omega arith) (sized (λ n w. ColumnsDone n (n + w) (augmented a b) n) a b kept_system d))
  fits (Dependent column) d = (
    d.0,
    d.1,
    unsized (λ n w. EndsDependent n (n + w) (augmented m rhs) d.0) m rhs system
        (dependent_to d.0 (sized (λ n w. EndsDependent n (n + w) (augmented a b) d.0) a b kept_system d.2)),
  )

  pub wide : (column : ℕ) → IsWideColumn a b column → IsWideColumn m rhs column
  wide column d = (
    d.0,
    d.1,
    unsized (λ n w. EndsWide n (n + w) (augmented m rhs) d.0) m rhs system
        (wide_to d.0 (sized (λ n w. EndsWide n (n + w) (augmented a b) d.0) a b kept_system d.2)),
  )
