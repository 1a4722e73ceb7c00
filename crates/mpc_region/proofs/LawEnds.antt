-- How the search for a law ends, by what the elimination answers.
use Rattle.std.proofs.Common.{◌≡◌, ℕ, List, subst}
use Rattle.mpc_space.specs.Matrix.{RationalMatrix}
use Rattle.mpc_space.specs.Definite.{IsDefinite}
use Rattle.mpc_linear.specs.Solution.{IsAnswer, FitsTo, IsWideColumn, IsOnlySolution, IsFirstDependent}
use Rattle.mpc_linear.specs.declared.elimination.Solved.{Solved}
use Rattle.mpc_linear.specs.declared.elimination.Solved.TheVariants.{Unique, Dependent}
use Rattle.mpc_linear.specs.Answers.{IfWide}
use Rattle.mpc_linear.specs.declared.errors.LinearError.{LinearError}
use Rattle.mpc_linear.specs.declared.errors.LinearError.TheVariants.{Wide}
use Rattle.mpc_rows.specs.declared.programs.Qp.{Qp}
use Rattle.mpc_rows.specs.declared.laws.Law.{Law}
use Rattle.mpc_rows.specs.ActiveSets.{IsIndependentSet}
use Rattle.mpc_rows.specs.Laws.{IsLaw}
use Rattle.mpc_rows.specs.SetRuns.{law_matrix, law_right, LawFits}
use Rattle.mpc_region.specs.LawEnd.{IsLawOfSet}
use Rattle.mpc_region.proofs.Endings.{fits-not_wide}
use Rattle.mpc_region.proofs.LawTheorem.{dependent_rows, independent_rows}

-- the matrices as the code passes them
module _ (qp : Qp) (s : List ℕ) (m rhs : RationalMatrix) (m_is : m ≡ law_matrix qp s) (rhs_is : rhs ≡ law_right qp s) where
  pub solution : (solved : Solved) (x : RationalMatrix) → solved ≡ Unique x → IsAnswer m rhs solved → IsOnlySolution (law_matrix qp s) (law_right qp s) x
  solution solved x e h = subst (λ a. IsOnlySolution a (law_right qp s) x) m_is (subst (λ b. IsOnlySolution m b x) rhs_is (subst (IsAnswer m rhs) e h))

  fits : (solved : Solved) → FitsTo m rhs solved → LawFits qp s
  fits solved h = subst (λ a. (column : ℕ) → ¬ IsWideColumn a (law_right qp s) column) m_is (subst (λ b. (column : ℕ) → ¬ IsWideColumn m b column) rhs_is (fits-not_wide m rhs solved h))

  pub found : (solved : Solved) (x : RationalMatrix) (law : Law) → solved ≡ Unique x → IsAnswer m rhs solved → FitsTo m rhs solved → law.set ≡ s → IsLaw qp law → IsLawOfSet qp s law
  found solved x law e h f of_set is_law = record { of_set = of_set; is_law = is_law; independent = independent_rows qp s x (solution solved x e h); fits = fits solved f }

  pub dependent : (solved : Solved) (column : ℕ) → solved ≡ Dependent column → IsDefinite qp.h.rows → IsAnswer m rhs solved → FitsTo m rhs solved → (¬ IsIndependentSet qp s) × LawFits qp s
  dependent solved column e d h f =
      let k = subst (IsAnswer m rhs) e h in
      (dependent_rows qp s d k.0 (subst (λ a. IsFirstDependent a k.0) m_is k.2), fits solved f)

  pub wide : (error : LinearError) (column : ℕ) → error ≡ Wide column → IfWide error (λ column. IsWideColumn m rhs column) → ¬ LawFits qp s
  wide error column e h all =
      all column (subst (λ a. IsWideColumn a (law_right qp s) column) m_is (subst (λ b. IsWideColumn m b column) rhs_is (subst (λ z. IfWide z (λ column. IsWideColumn m rhs column)) e h)))
