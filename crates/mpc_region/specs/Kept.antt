-- What is kept of a program from one of its sets to the next.
use Rattle.std.specs.Prelude.{◌≡◌, ℕ, ◌+◌, ◌<◌, ◌≤◌, Option, None, IfSome, List, [], length, get_or, take}
use Rattle.mpc_rows.specs.declared.programs.Qp.{Qp}
use Rattle.mpc_rows.specs.LinearSystem.{LinearSystem}
use Rattle.mpc_rows.specs.SetRuns.{reach_system, region_system}
use Rattle.mpc_region.specs.declared.kept.Kept.{Kept}

-- if a run is there, it is that of the states that reach the set
abbrev pub IsReachRun : Qp → List ℕ → Option LinearSystem → Type 0
IsReachRun qp set run = IfSome run (λ s. s ≡ reach_system qp set)

-- if a run is there, it is that of the box alone
abbrev pub IsBoxRun : Qp → Option LinearSystem → Type 0
IsBoxRun qp run = IfSome run (λ s. s ≡ region_system qp [])

-- the runs of the set's first members: of none, of one, and so on, not beyond the whole set
pub record AreReachRuns (qp : Qp) (set : List ℕ) (runs : List (Option LinearSystem)) : Type 0 where
  pub few : length runs ≤ length set + 1
  pub each : (k : ℕ) → k < length runs → IsReachRun qp (take k set) (get_or runs k None)

pub record IsKept (qp : Qp) (kept : Kept) : Type 0 where
  pub reaches : AreReachRuns qp kept.set kept.reaches.items
  pub states : IsBoxRun qp kept.states
