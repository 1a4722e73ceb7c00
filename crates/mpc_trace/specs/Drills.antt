-- What comes of a drill: its plant is refused, or the counts of what was made for it.
use Rattle.std.specs.Prelude.{◌≡◌, ℕ, ◌++◌, List, length, codes, decimal}
use Rattle.mpc_plant.specs.declared.plants.Plant.{Plant}
use Rattle.mpc_rows.specs.declared.programs.Qp.{Qp}
use Rattle.mpc_controller.specs.Parts.{Parts}
use Rattle.mpc_synthesis.specs.Controllers.{IsController}
use Rattle.mpc_synthesis.specs.Outcomes.{Outcome, not_definite, too_wide, IsOutcome}
use Rattle.mpc_synthesis.specs.Refusals.{controller}
use Rattle.mpc_condense.specs.declared.convex.ProgramError.{ProgramError as SynthesisError}
use Rattle.mpc_condense.specs.declared.convex.ProgramError.TheVariants.{NotDefinite, TooWide, NoMemory}
use Rattle.mpc_trace.specs.Histories.{IsEachCandidate}
use Rattle.mpc_trace.specs.declared.drills.Drilled.{Drilled}
use Rattle.mpc_trace.specs.DrillPlant.{IsDrillPlant}
use Rattle.mpc_trace.specs.SearchTree.{IsTreeOf}

-- the program has so many candidates
pub record CountsCandidates (qp : Qp) (count : ℕ) : Type 0 where
  pub sets : List (List ℕ)
  pub each : IsEachCandidate qp sets
  pub as_many : length sets ≡ count

-- The counts are those of the plant's controller: of its program's candidates, of the laws of its table, of the leaves of its search tree,
-- and of the splits above the deepest of these.
pub record HasCounts (plant : Plant) (counts : Drilled) : Type 0 where
  pub qp : Qp
  pub parts : Parts
  pub controls : IsController plant qp parts
  pub candidates : CountsCandidates qp counts.candidates
  pub regions : length parts.laws ≡ counts.regions
  pub tree : IsTreeOf parts.tree counts.leaves counts.depth

-- the counts are those of the drill's plant
pub record IsDrilled (number : ℕ) (counts : Drilled) : Type 0 where
  pub plant : Plant
  pub is : IsDrillPlant number plant
  pub counted : HasCounts plant counts

-- the outcome is that of the drill's plant
pub record IsDrillOutcome (number : ℕ) (outcome : Outcome) : Type 0 where
  pub plant : Plant
  pub is : IsDrillPlant number plant
  pub comes : IsOutcome controller plant outcome

-- why a drill is refused: for a cause of its plant
abbrev pub ExplainsDrillError : ℕ → SynthesisError → Type 0
ExplainsDrillError number (NotDefinite pivot) = IsDrillOutcome number (not_definite pivot)
ExplainsDrillError number (TooWide place) = IsDrillOutcome number (too_wide place)
ExplainsDrillError number NoMemory = Unit {0}

-- at most one outcome is that of a drill, which has one plant
pub record OneDrill : Type 0 where
  pub plant : (number : ℕ) (one other : Plant) → IsDrillPlant number one → IsDrillPlant number other → one ≡ other
  pub outcome : (number : ℕ) (one other : Outcome) → IsDrillOutcome number one → IsDrillOutcome number other → one ≡ other

-- a word and a number in decimal
abbrev pub counted_text : List ℕ → ℕ → List ℕ
counted_text word number = word ++ decimal number

-- the line of the counts
abbrev pub drill_text : Drilled → List ℕ
drill_text counts = counted_text (codes "candidates ") counts.candidates ++ counted_text (codes " regions ") counts.regions ++ counted_text (codes " leaves ") counts.leaves ++ counted_text (codes " depth ") counts.depth ++ codes "\n"
