-- What the elimination answers for the matrix of an active set.
use Rattle.std.proofs.Common.{◌≡◌, ℕ, List, subst}
use Rattle.mpc_space.specs.Matrix.{RationalMatrix}
use Rattle.mpc_space.specs.Definite.{IsDefinite}
use Rattle.mpc_linear.specs.Solution.{IsAnswer, FitsTo, IsWideColumn, IsOnlySolution, IsFirstDependent}
use Rattle.mpc_linear.specs.declared.elimination.Solved.{Solved}
use Rattle.mpc_linear.specs.declared.elimination.Solved.TheVariants.{Unique, Dependent}
use Rattle.mpc_linear.specs.Answers.{IfWide}
use Rattle.mpc_linear.specs.declared.errors.LinearError.{LinearError}
use Rattle.mpc_linear.specs.declared.errors.LinearError.TheVariants.{Wide}
use Rattle.mpc_rows.specs.declared.programs.Qp.{Qp}
use Rattle.mpc_rows.specs.ActiveSets.{IsIndependentSet}
use Rattle.mpc_rows.specs.SetRuns.{law_matrix}
use Rattle.mpc_online.specs.Widths.{EliminationFits}
use Rattle.mpc_online.proofs.Endings.{fits-not_wide}
use Rattle.mpc_online.proofs.Solved.{dependent_rows}

module _ (qp : Qp) (s : List ℕ) (m right : RationalMatrix) (m_is : m ≡ law_matrix qp s) where
  pub only : (solved : Solved) (x : RationalMatrix) → solved ≡ Unique x → IsAnswer m right solved → IsOnlySolution (law_matrix qp s) right x
  only solved x e h = subst (λ a. IsOnlySolution a right x) m_is (subst (IsAnswer m right) e h)

  pub fits : (solved : Solved) → FitsTo m right solved → EliminationFits (law_matrix qp s) right
  fits solved h = subst (λ a. EliminationFits a right) m_is (fits-not_wide m right solved h)

  pub not_dependent : (solved : Solved) (column : ℕ) → solved ≡ Dependent column → IsDefinite qp.h.rows → IsIndependentSet qp s → IsAnswer m right solved → ⊥
  not_dependent solved column e d i h =
      let k = subst (IsAnswer m right) e h in
      dependent_rows qp s d k.0 (subst (λ a. IsFirstDependent a k.0) m_is k.2) i

  pub wide : (error : LinearError) (column : ℕ) → error ≡ Wide column → IfWide error (λ column. IsWideColumn m right column) → ¬ EliminationFits (law_matrix qp s) right
  wide error column e h all =
      all column (subst (λ a. IsWideColumn a right column) m_is (subst (λ z. IfWide z (λ column. IsWideColumn m right column)) e h))
