-- How the search for a law ends, by what is kept for all sets of the program.
use Rattle.std.proofs.Common.{◌≡◌, ℕ, ◌+◌, List, length, Option, Some, refl, sym, ◌∙◌, subst}
use Rattle.mpc_space.specs.Matrix.{RationalMatrix, height}
use Rattle.mpc_space.specs.Definite.{IsDefinite}
use Rattle.mpc_sets.specs.RowSet.{IsSetOfRows}
use Rattle.mpc_linear.specs.Answers.{IfWide}
use Rattle.mpc_linear.specs.Solution.{IsAnswer, FitsTo, IsWideColumn, IsOnlySolution}
use Rattle.mpc_linear.specs.declared.elimination.Solved.{Solved}
use Rattle.mpc_linear.specs.declared.elimination.Solved.TheVariants.{Unique, Dependent}
use Rattle.mpc_linear.specs.declared.errors.LinearError.{LinearError}
use Rattle.mpc_linear.specs.declared.errors.LinearError.TheVariants.{Wide}
use Rattle.mpc_rows.specs.declared.programs.Qp.{Qp}
use Rattle.mpc_rows.specs.declared.laws.Law.{Law}
use Rattle.mpc_rows.specs.ActiveSets.{IsIndependentSet}
use Rattle.mpc_rows.specs.Laws.{IsLaw}
use Rattle.mpc_rows.specs.SetRuns.{law_matrix, law_right, LawFits}
use Rattle.mpc_bordered.specs.declared.kept.Kept.{Kept}
use Rattle.mpc_bordered.specs.Parts.{ArePlaces, IsPart, ForPart, IfSolved}
use Rattle.mpc_region.specs.LawEnd.{IsLawOfSet}
use Rattle.mpc_systems.specs.Equations.{AreMemberPlaces}
use Rattle.mpc_region.specs.Shared.{shared_table, AreSidePlaces, IsKeptTable}
use Rattle.mpc_region.proofs.LawEnds.{found, dependent}
use Rattle.mpc_region.proofs.SharedParts.{are_places, is_part}

-- the places by the names that the code has for the numbers
pub places_at : (qp : Qp) (s ps rows : List ℕ) (n : ℕ) → n ≡ height qp.h → AreMemberPlaces n s ps → rows ≡ ps → AreMemberPlaces (height qp.h) s rows
places_at qp s ps rows n n_is at rows_are = subst (λ n. AreMemberPlaces n s rows) n_is (subst (AreMemberPlaces n s) (sym rows_are) at)

pub rights_at : (qp : Qp) (rs rights : List ℕ) (n g w : ℕ) → n ≡ height qp.h → g ≡ height qp.g → w ≡ qp.f.columns → AreSidePlaces (n + g) w rs → rights ≡ rs → AreSidePlaces (height qp.h + height qp.g) (length qp.counts + 1) rights
rights_at qp rs rights n g w n_is g_is w_is right_at rights_are =
    subst (λ w. AreSidePlaces (height qp.h + height qp.g) w rights) (w_is ∙ qp.is_program.f_shape.columns_are)
    (subst (λ g. AreSidePlaces (height qp.h + g) w rights) g_is
    (subst (λ n. AreSidePlaces (n + g) w rights) n_is
    (subst (AreSidePlaces (n + g) w) (sym rights_are) right_at)))

module _ (qp : Qp) (s : List ℕ) (set : IsSetOfRows (height qp.g) s) (k : Kept) (kept : IsKeptTable qp k) (rows rights : List ℕ) (at : AreMemberPlaces (height qp.h) s rows)
    (right_at : AreSidePlaces (height qp.h + height qp.g) (length qp.counts + 1) rights) where
  carried : (P : RationalMatrix → ℕ → Type 0) → P (shared_table qp) (height qp.h) → P k.table k.front
  carried P h = subst (λ t. P t k.front) (sym kept.table) (subst (λ u. P (shared_table qp) u) (sym kept.front) h)

  pub law_places : ArePlaces k.table k.front rows rights
  law_places = carried (λ t u. ArePlaces t u rows rights) (are_places qp s rows rights set at right_at)

  abbrev m : RationalMatrix
  m = law_matrix qp s

  abbrev rhs : RationalMatrix
  rhs = law_right qp s

  law_part : IsPart k.table k.front rows rights m rhs
  law_part = carried (λ t u. IsPart t u rows rights m rhs) (is_part qp s rows rights set at right_at)

  solved_of : (P : RationalMatrix → RationalMatrix → Solved → Type 0) (o : Option Solved) (a : Solved) → o ≡ Some a → IfSolved k.table k.front rows rights o P → P m rhs a
  solved_of P o a e h = (subst (λ o. IfSolved k.table k.front rows rights o P) e h) m rhs law_part

  pub shared_solution : (o : Option Solved) (a : Solved) (x : RationalMatrix) → o ≡ Some a → a ≡ Unique x → IfSolved k.table k.front rows rights o IsAnswer → IsOnlySolution m rhs x
  shared_solution o a x e f h = subst (IsAnswer m rhs) f (solved_of IsAnswer o a e h)

  pub shared_found : (o : Option Solved) (a : Solved) (x : RationalMatrix) (law : Law) → o ≡ Some a → a ≡ Unique x → IfSolved k.table k.front rows rights o IsAnswer → IfSolved k.table k.front rows rights o FitsTo → law.set ≡ s → IsLaw qp law → IsLawOfSet qp s law
  shared_found o a x law e f h q of_set is_law = found qp s m rhs refl refl a x law f (solved_of IsAnswer o a e h) (solved_of FitsTo o a e q) of_set is_law

  pub shared_dependent : (o : Option Solved) (a : Solved) (column : ℕ) → o ≡ Some a → a ≡ Dependent column → IsDefinite qp.h.rows → IfSolved k.table k.front rows rights o IsAnswer → IfSolved k.table k.front rows rights o FitsTo → (¬ IsIndependentSet qp s) × LawFits qp s
  shared_dependent o a column e f d h q = dependent qp s m rhs refl refl a column f d (solved_of IsAnswer o a e h) (solved_of FitsTo o a e q)

  pub shared_wide : (error : LinearError) (column : ℕ) → error ≡ Wide column → IfWide error (λ column. ForPart k.table k.front rows rights (λ m rhs. IsWideColumn m rhs column)) → ¬ LawFits qp s
  shared_wide error column e h all = all column ((subst (λ z. IfWide z (λ column. ForPart k.table k.front rows rights (λ m rhs. IsWideColumn m rhs column))) e h) m rhs law_part)
