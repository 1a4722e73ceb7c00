-- The candidates of a program (the pruning of Gupta, Bhartiya and Nataraj 2011), their verdicts, and the table of laws.
use Rattle.std.specs.Prelude.{◌≡◌, ℕ, zero, suc, ◌≤◌, List, [], length, map, Contains}
use Rattle.mpc_space.specs.Matrix.{height}
use Rattle.mpc_sets.specs.RowSet.{IsSetOfRows, LacksOne}
use Rattle.mpc_sets.specs.SetOrder.{IsInOrder}
use Rattle.mpc_rows.specs.declared.programs.Qp.{Qp}
use Rattle.mpc_rows.specs.declared.laws.Law.{Law}
use Rattle.mpc_rows.specs.declared.verdicts.Verdict.{Verdict}
use Rattle.mpc_rows.specs.declared.verdicts.Verdict.TheVariants.{Dependent, Unreachable, Hollow, Region, Wide}
use Rattle.mpc_rows.specs.ActiveSets.{IsIndependentSet, IsReachable}
use Rattle.mpc_rows.specs.Laws.{IsLaw, HasRegion, HasLawWith}

-- a set can grow where its rows are independent and it can be reached
pub record CanGrow (qp : Qp) (s : List ℕ) : Type 0 where
  pub independent : IsIndependentSet qp s
  pub reachable : IsReachable qp s

-- The empty set is a candidate. A set of k + 1 rows, no more than there are unknowns, is one where each subset with one member fewer is a
-- candidate that can grow.
abbrev pub IsCandidateOf : ℕ → Qp → List ℕ → Type 0
IsCandidateOf zero qp s = s ≡ []
IsCandidateOf (suc k) qp s = IsSetOfRows (height qp.g) s × (length s ≡ suc k) × (suc k ≤ height qp.h) × ((t : List ℕ) → IsSetOfRows (height qp.g) t → LacksOne t s → IsCandidateOf k qp t × CanGrow qp t)

abbrev pub IsCandidate : Qp → List ℕ → Type 0
IsCandidate qp s = IsCandidateOf (length s) qp s

-- what is so of a set, whatever its numbers are
abbrev pub IsVerdict : Qp → List ℕ → Verdict → Type 0
IsVerdict qp s Dependent = ¬ IsIndependentSet qp s
IsVerdict qp s Unreachable = IsIndependentSet qp s × ¬ IsReachable qp s
IsVerdict qp s Hollow = CanGrow qp s × HasLawWith qp s (λ law. ¬ HasRegion qp law)
IsVerdict qp s (Region law) = CanGrow qp s × (law.set ≡ s) × IsLaw qp law × HasRegion qp law
IsVerdict qp s (Wide place) = ⊥

-- the law is that of a candidate with a region
pub record IsLawOfTable (qp : Qp) (law : Law) : Type 0 where
  pub candidate : IsCandidate qp law.set
  pub verdict : IsVerdict qp law.set (Region law)

-- the laws of all candidates with a region, in the order of their sets
pub record IsTable (qp : Qp) (laws : List Law) : Type 0 where
  pub in_order : IsInOrder (map (λ law. law.set) laws)
  pub are_laws : (law : Law) → Contains laws law → IsLawOfTable qp law
  pub complete : (law : Law) → IsLawOfTable qp law → Contains laws law
