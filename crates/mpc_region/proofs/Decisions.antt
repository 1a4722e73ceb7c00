-- What the points of the two systems tell of a set and of its law.
use Rattle.std.proofs.Common.{◌≡◌, ℕ, List, Bool, Result, Ok, Err, IfOk, MatchResult, IsTrue, ◌↔◌, subst, sym}
use Rattle.mpc_space.specs.Matrix.{height}
use Rattle.mpc_linear.specs.declared.integers.RowInt.{RowInt}
use Rattle.mpc_sets.specs.RowSet.{IsSetOfRows}
use Rattle.mpc_rows.specs.declared.programs.Qp.{Qp}
use Rattle.mpc_rows.specs.declared.laws.Law.{Law}
use Rattle.mpc_rows.specs.LinearSystem.{LinearSystem}
use Rattle.mpc_rows.specs.RunWidth.{RunFits}
use Rattle.mpc_rows.specs.ActiveSets.{IsReachable}
use Rattle.mpc_rows.specs.Laws.{IsLaw, HasRegion}
use Rattle.mpc_rows.specs.LawRows.{AreLawRows}
use Rattle.mpc_rows.specs.SetRuns.{reach_system, region_system, RegionFits}
use Rattle.mpc_rows.specs.LawTheorems.{LawTheorems}
use Rattle.mpc_rows.specs.RegionTheorems.{RegionTheorems}
use Rattle.mpc_simplex.specs.Answer.{IfWide, HasPoint}
use Rattle.mpc_simplex.specs.declared.SimplexError.{SimplexError}
use Rattle.mpc_simplex.specs.declared.SimplexError.TheVariants.{Wide, NoMemory}

told : (answer : Bool) (P Q : Type 0) → IsTrue answer ↔ P → P ↔ Q → IsTrue answer ↔ Q
told answer P Q h k = (λ y. k.0 (h.0 y), λ q. h.1 (k.1 q))

pub reach_answer : RegionTheorems → (qp : Qp) (set : List ℕ) → IsSetOfRows (height qp.g) set → (r : Result Bool SimplexError) (s : LinearSystem) → s ≡ reach_system qp set → IfOk r (λ answer. IsTrue answer ↔ HasPoint s) → IfOk r (λ answer. IsTrue answer ↔ IsReachable qp set)
reach_answer points qp set of_rows (Ok answer) s e h = told answer (HasPoint (reach_system qp set)) (IsReachable qp set) (subst (λ z. IsTrue answer ↔ HasPoint z) e h) (points.reachable qp set of_rows)
reach_answer points qp set of_rows (Err x) s e h = h

module _ (points : RegionTheorems) (single : LawTheorems) (qp : Qp) (law : Law) (is_law : IsLaw qp law) (rows : List RowInt) (are : AreLawRows qp law rows) (s : LinearSystem) (e : s ≡ region_system qp rows) where
  pub region_answer : (r : Result Bool SimplexError) → IfOk r (λ answer. IsTrue answer ↔ HasPoint s) → IfOk r (λ answer. IsTrue answer ↔ HasRegion qp law)
  region_answer (Ok answer) h = let k = points.has_region qp law is_law rows are in told answer (HasPoint (region_system qp rows)) (HasRegion qp law) (subst (λ z. IsTrue answer ↔ HasPoint z) e h) (k.1, k.0)
  region_answer (Err x) h = h

  pub region_wide : (r : Result Bool SimplexError) → MatchResult r (λ _. RunFits s) (λ x. IfWide x (¬ RunFits s)) → MatchResult r (λ _. RegionFits qp law) (λ x. IfWide x (¬ RegionFits qp law))
  region_wide (Ok answer) h = λ others are_rows. subst (λ xs. RunFits (region_system qp xs)) (single.law_rows_unique qp law rows others are are_rows) (subst RunFits e h)
  region_wide (Err Wide) h = λ fits. h (subst RunFits (sym e) (fits rows are))
  region_wide (Err NoMemory) h = h
