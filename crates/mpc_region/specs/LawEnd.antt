-- How the search for the law of an active set ends.
use Rattle.std.specs.Prelude.{◌≡◌, ℕ, List}
use Rattle.mpc_rows.specs.declared.programs.Qp.{Qp}
use Rattle.mpc_rows.specs.declared.laws.Law.{Law}
use Rattle.mpc_rows.specs.ActiveSets.{IsIndependentSet}
use Rattle.mpc_rows.specs.Laws.{IsLaw}
use Rattle.mpc_rows.specs.SetRuns.{LawFits}
use Rattle.mpc_region.specs.declared.law.LawEnd.{LawEnd}
use Rattle.mpc_region.specs.declared.law.LawEnd.TheVariants.{Dependent, Wide, Found}

-- the law of an independent set
pub record IsLawOfSet (qp : Qp) (s : List ℕ) (law : Law) : Type 0 where
  pub of_set : law.set ≡ s
  pub is_law : IsLaw qp law
  pub independent : IsIndependentSet qp s
  pub fits : LawFits qp s

abbrev pub IsLawEnd : Qp → List ℕ → LawEnd → Type 0
IsLawEnd qp s Dependent = (¬ IsIndependentSet qp s) × LawFits qp s
IsLawEnd qp s Wide = ¬ LawFits qp s
IsLawEnd qp s (Found law) = IsLawOfSet qp s law
