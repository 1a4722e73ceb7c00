-- The runs that decide an active set, up to the first with a number that is too wide.
use Rattle.std.specs.Prelude.{ℕ, List}
use Rattle.mpc_space.specs.Matrix.{height}
use Rattle.mpc_rows.specs.declared.programs.Qp.{Qp}
use Rattle.mpc_rows.specs.declared.places.Place.{Place}
use Rattle.mpc_rows.specs.declared.places.Place.TheVariants.{Law as LawRun, Reach, Border, Region as RegionRun}
use Rattle.mpc_rows.specs.declared.verdicts.Verdict.{Verdict}
use Rattle.mpc_rows.specs.ActiveSets.{IsIndependentSet}
use Rattle.mpc_rows.specs.Laws.{HasLawWith}
use Rattle.mpc_rows.specs.Candidates.{CanGrow, IsVerdict}
use Rattle.mpc_rows.specs.LawRows.{LawRowFits}
use Rattle.mpc_rows.specs.RunWidth.{RunFits}
use Rattle.mpc_rows.specs.SetRuns.{LawFits, reach_system, LawRowsFit, RegionFits}
use Rattle.mpc_rows.specs.Verdicts.{ReachFits, RunsFit}
use Rattle.mpc_theorem.specs.Firsts.{IsFirstOf, numbered}

-- the runs up to the one that decides the set fit
abbrev pub SetFits : Qp → List ℕ → Type 0
SetFits qp s = (verdict : Verdict) × IsVerdict qp s verdict × RunsFit qp s verdict

-- The run at this place is too wide; those before it fit, and don't decide the set. In order they are the elimination that gives the law, the
-- search for a state that reaches the set, the law's rows, and the search for a point of its region.
pub data IsWideRun (qp : Qp) (s : List ℕ) : Place → Type 0 where
  wide_law : (¬ LawFits qp s) → IsWideRun qp s (LawRun s)
  wide_reach : LawFits qp s → IsIndependentSet qp s → (¬ RunFits (reach_system qp s)) → IsWideRun qp s (Reach s)
  wide_row : (i : ℕ) → ReachFits qp s → CanGrow qp s → HasLawWith qp s (λ law. IsFirstOf (LawRowFits qp law) (numbered (λ k. k) 1 (height qp.g)) i) → IsWideRun qp s (Border s i)
  wide_region : ReachFits qp s → CanGrow qp s → HasLawWith qp s (λ law. LawRowsFit qp law (height qp.g) × ¬ RegionFits qp law) → IsWideRun qp s (RegionRun s)
