-- What an input of several plants comes to.
use Rattle.std.specs.Prelude.{◌≡◌, ℕ, ◌<◌, ◌≤◌, List, length}
use Rattle.mpc_sections.specs.Sections.{sections_of}
use Rattle.mpc_sections.specs.Alone.{AreAnswered}

pub data FleetOutcome : Type 0 where
  too_many_plants : FleetOutcome
  answered : List ℕ → FleetOutcome

abbrev pub IsFleetOutcome : List ℕ → FleetOutcome → Type 0
IsFleetOutcome input too_many_plants = 8 < length (sections_of input)
IsFleetOutcome input (answered text) = (length (sections_of input) ≤ 8) × AreAnswered 1 (sections_of input) text

-- an input comes to one thing
abbrev pub OneFleetOutcome : Type 0
OneFleetOutcome = (input : List ℕ) (one other : FleetOutcome) → IsFleetOutcome input one → IsFleetOutcome input other → one ≡ other
