-- What is solved by what is kept, for the equations of a step.
use Rattle.std.proofs.Common.{◌≡◌, ℕ, ◌+◌, ◌-◌, ◌≤◌, List, [], ◌∷◌, Option, Some, sym, subst}
use Rattle.mpc_space.specs.Matrix.{RationalMatrix, height}
use Rattle.mpc_space.specs.Definite.{IsDefinite}
use Rattle.mpc_sets.specs.RowSet.{IsSetOfRows}
use Rattle.mpc_linear.specs.Answers.{IfWide}
use Rattle.mpc_linear.specs.Solution.{IsAnswer, FitsTo, IsWideColumn, IsOnlySolution}
use Rattle.mpc_linear.specs.declared.elimination.Solved.{Solved}
use Rattle.mpc_linear.specs.declared.elimination.Solved.TheVariants.{Unique, Dependent}
use Rattle.mpc_linear.specs.declared.errors.LinearError.{LinearError}
use Rattle.mpc_linear.specs.declared.errors.LinearError.TheVariants.{Wide}
use Rattle.mpc_rows.specs.declared.programs.Qp.{Qp}
use Rattle.mpc_rows.specs.ActiveSets.{IsIndependentSet}
use Rattle.mpc_rows.specs.SetRuns.{law_matrix}
use Rattle.mpc_rows.specs.LawTheorems.{LawTheorems}
use Rattle.mpc_bordered.specs.declared.kept.Kept.{Kept}
use Rattle.mpc_bordered.specs.Parts.{ArePlaces, IsPart, ForPart, IfSolved}
use Rattle.mpc_online.specs.Positions.{right_matrix, step_side}
use Rattle.mpc_online.specs.Widths.{EliminationFits}
use Rattle.mpc_systems.specs.Equations.{AreMemberPlaces}
use Rattle.mpc_online.specs.Shared.{shared_table, IsKeptOf}
use Rattle.mpc_online.proofs.Endings.{fits-not_wide}
use Rattle.mpc_online.proofs.Solved.{dependent_rows}
use Rattle.mpc_online.proofs.SharedParts.{are_places, is_part}

-- the names that the code has for the table and the places
module _ (laws : LawTheorems) (qp : Qp) (s : List ℕ) (set : IsSetOfRows (height qp.g) s) (row : ℕ) (from_one : 1 ≤ row) (to_last : row ≤ height qp.g) (k : Kept) (kept : IsKeptOf qp k)
    (n g : ℕ) (n_is : n ≡ height qp.h) (g_is : g ≡ height qp.g) (ps rows : List ℕ) (at : AreMemberPlaces n s ps) (rows_are : rows ≡ ps) where
  abbrev rights : List ℕ
  rights = (n + g + (row - 1)) ∷ []

  places_at : AreMemberPlaces (height qp.h) s rows
  places_at = subst (λ n. AreMemberPlaces n s rows) n_is (subst (AreMemberPlaces n s) (sym rows_are) at)

  carried : (P : RationalMatrix → ℕ → List ℕ → Type 0) → P (shared_table qp) (height qp.h) ((height qp.h + height qp.g + (row - 1)) ∷ []) → P k.table k.front rights
  carried P h =
      subst (λ t. P t k.front rights) (sym kept.table)
      (subst (λ u. P (shared_table qp) u rights) (sym kept.front)
      (subst (λ n. P (shared_table qp) (height qp.h) ((n + g + (row - 1)) ∷ [])) (sym n_is)
      (subst (λ g. P (shared_table qp) (height qp.h) ((height qp.h + g + (row - 1)) ∷ [])) (sym g_is) h)))

  pub step_places : ArePlaces k.table k.front rows rights
  step_places = carried (λ t u r. ArePlaces t u rows r) (are_places laws qp s rows set places_at row from_one to_last)

  abbrev m : RationalMatrix
  m = law_matrix qp s

  abbrev rhs : RationalMatrix
  rhs = right_matrix qp s (step_side qp row)

  step_part : IsPart k.table k.front rows rights m rhs
  step_part = carried (λ t u r. IsPart t u rows r m rhs) (is_part laws qp s rows set places_at row from_one to_last)

  solved_of : (P : RationalMatrix → RationalMatrix → Solved → Type 0) (o : Option Solved) (a : Solved) → o ≡ Some a → IfSolved k.table k.front rows rights o P → P m rhs a
  solved_of P o a e h = (subst (λ o. IfSolved k.table k.front rows rights o P) e h) m rhs step_part

  pub kept_only : (o : Option Solved) (a : Solved) (x : RationalMatrix) → o ≡ Some a → a ≡ Unique x → IfSolved k.table k.front rows rights o IsAnswer → IsOnlySolution m rhs x
  kept_only o a x e f h = subst (IsAnswer m rhs) f (solved_of IsAnswer o a e h)

  pub kept_fits : (o : Option Solved) (a : Solved) → o ≡ Some a → IfSolved k.table k.front rows rights o FitsTo → EliminationFits m rhs
  kept_fits o a e h = fits-not_wide m rhs a (solved_of FitsTo o a e h)

  pub kept_independent : (o : Option Solved) (a : Solved) (column : ℕ) → o ≡ Some a → a ≡ Dependent column → IsDefinite qp.h.rows → IsIndependentSet qp s → IfSolved k.table k.front rows rights o IsAnswer → ⊥
  kept_independent o a column e f d i h =
      let q = subst (IsAnswer m rhs) f (solved_of IsAnswer o a e h) in
      dependent_rows qp s d q.0 q.2 i

  pub kept_wide : (error : LinearError) (column : ℕ) → error ≡ Wide column → IfWide error (λ column. ForPart k.table k.front rows rights (λ m rhs. IsWideColumn m rhs column)) → ¬ EliminationFits m rhs
  kept_wide error column e h all = all column ((subst (λ z. IfWide z (λ column. ForPart k.table k.front rows rights (λ m rhs. IsWideColumn m rhs column))) e h) m rhs step_part)
