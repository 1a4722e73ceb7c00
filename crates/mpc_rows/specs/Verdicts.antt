-- When a verdict on an active set is right for a program: it tells what is so of the set, and none of the runs that decide it meets a number
-- that is too wide; or it names the first run that does.
use Rattle.std.specs.Prelude.{◌≡◌, ℕ, ◌-◌, ◌≤◌, ◌⊎◌, List}
use Rattle.mpc_space.specs.Matrix.{height}
use Rattle.mpc_rows.specs.declared.programs.Qp.{Qp}
use Rattle.mpc_rows.specs.declared.laws.Law.{Law}
use Rattle.mpc_rows.specs.declared.places.Place.{Place}
use Rattle.mpc_rows.specs.declared.places.Place.TheVariants.{Law as LawRun, Reach, Border, Region as RegionRun}
use Rattle.mpc_rows.specs.declared.verdicts.Verdict.{Verdict}
use Rattle.mpc_rows.specs.declared.verdicts.Verdict.TheVariants.{Dependent, Unreachable, Hollow, Region, Wide}
use Rattle.mpc_rows.specs.RunWidth.{RunFits}
use Rattle.mpc_rows.specs.ActiveSets.{IsIndependentSet}
use Rattle.mpc_rows.specs.Laws.{HasLawWith}
use Rattle.mpc_rows.specs.Candidates.{CanGrow, IsVerdict}
use Rattle.mpc_rows.specs.LawRows.{LawRowFits}
use Rattle.mpc_rows.specs.SetRuns.{LawFits, reach_system, LawRowsFit, RegionFits}

-- the elimination that gives the law and the search for a state that reaches the set fit
pub record ReachFits (qp : Qp) (s : List ℕ) : Type 0 where
  pub law : LawFits qp s
  pub reach : RunFits (reach_system qp s)

-- and so do the rows of the law and the search for a point of its region
pub record AllFit (qp : Qp) (law : Law) : Type 0 where
  pub rows : LawRowsFit qp law (height qp.g)
  pub region : RegionFits qp law

-- the runs of the set up to the one that decides this verdict fit
abbrev pub RunsFit : Qp → List ℕ → Verdict → Type 0
RunsFit qp s Dependent = LawFits qp s
RunsFit qp s Unreachable = ReachFits qp s
RunsFit qp s Hollow = ReachFits qp s × HasLawWith qp s (AllFit qp)
RunsFit qp s (Region law) = ReachFits qp s × AllFit qp law
RunsFit qp s (Wide place) = ⊥

-- row i of the law is its first row with a number that is too wide
pub record IsFirstWideRow (qp : Qp) (i : ℕ) (law : Law) : Type 0 where
  pub from_one : 1 ≤ i
  pub to_last : i ≤ height qp.g
  pub before : LawRowsFit qp law (i - 1)
  pub here : ¬ LawRowFits qp law i

-- all rows of the law fit, and the search for a point of its region doesn't
pub record IsWideRegion (qp : Qp) (law : Law) : Type 0 where
  pub before : LawRowsFit qp law (height qp.g)
  pub here : ¬ RegionFits qp law

-- The place names the first run of the set with a number that is too wide, and the runs before it don't decide the set: the elimination that
-- gives the law, the search for a state that reaches the set, the first row of the law that is too wide, the search for a point of the region.
abbrev pub IsWideLaw : Qp → List ℕ → Place → Type 0
IsWideLaw qp s place = (place ≡ LawRun s) × ¬ LawFits qp s

abbrev pub IsWideReach : Qp → List ℕ → Place → Type 0
IsWideReach qp s place = (place ≡ Reach s) × LawFits qp s × IsIndependentSet qp s × ¬ RunFits (reach_system qp s)

abbrev pub IsWideBorder : Qp → List ℕ → Place → Type 0
IsWideBorder qp s place = (i : ℕ) × (place ≡ Border s i) × ReachFits qp s × CanGrow qp s × HasLawWith qp s (IsFirstWideRow qp i)

abbrev pub IsWideInRegion : Qp → List ℕ → Place → Type 0
IsWideInRegion qp s place = (place ≡ RegionRun s) × ReachFits qp s × CanGrow qp s × HasLawWith qp s (IsWideRegion qp)

abbrev pub IsFirstWide : Qp → List ℕ → Place → Type 0
IsFirstWide qp s place = IsWideLaw qp s place ⊎ (IsWideReach qp s place ⊎ (IsWideBorder qp s place ⊎ IsWideInRegion qp s place))

-- the verdict is right for the set
abbrev pub IsRight : Qp → List ℕ → Verdict → Type 0
IsRight qp s Dependent = IsVerdict qp s Dependent × RunsFit qp s Dependent
IsRight qp s Unreachable = IsVerdict qp s Unreachable × RunsFit qp s Unreachable
IsRight qp s Hollow = IsVerdict qp s Hollow × RunsFit qp s Hollow
IsRight qp s (Region law) = IsVerdict qp s (Region law) × RunsFit qp s (Region law)
IsRight qp s (Wide place) = IsFirstWide qp s place
