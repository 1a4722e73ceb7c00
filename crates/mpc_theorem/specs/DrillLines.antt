-- What is written of a drill.
use Rattle.std.specs.Prelude.{◌≡◌, ℕ, List, length}
use Rattle.mpc_rows.specs.declared.programs.Qp.{Qp}
use Rattle.mpc_rows.specs.Candidates.{IsTable}
use Rattle.mpc_condense.specs.Condensed.{IsCondensed}
use Rattle.mpc_controller.specs.Parts.{Parts}
use Rattle.mpc_files.specs.FileAnswers.{RepliesRightly}
use Rattle.mpc_trace.specs.declared.drills.Drilled.{Drilled}
use Rattle.mpc_trace.specs.DrillPlant.{IsDrillPlant}
use Rattle.mpc_trace.specs.SearchTree.{IsTreeOf}
use Rattle.mpc_trace.specs.Drills.{CountsCandidates, IsDrilled, drill_text}

-- The output of `drill`: how many candidates and how many laws the drill's plant has, and how many leaves and which depth the tree has of a
-- controller with these laws, which replies at every point of the box, and rightly.
pub record IsDrillLine (number : ℕ) (output : List ℕ) : Type 0 where
  pub qp : Qp
  pub parts : Parts
  pub counts : Drilled
  pub drill : IsDrillPlant number parts.plant
  pub condensed : IsCondensed qp parts.plant
  pub candidates : CountsCandidates qp counts.candidates
  pub table : IsTable qp parts.laws
  pub regions : length parts.laws ≡ counts.regions
  pub tree : IsTreeOf parts.tree counts.leaves counts.depth
  pub rightly : RepliesRightly parts
  pub written : output ≡ drill_text counts

-- what the library counts of a drill is this
abbrev pub DrilledIsLine : Type 0
DrilledIsLine = (number : ℕ) (counts : Drilled) (output : List ℕ) → IsDrilled number counts → output ≡ drill_text counts → IsDrillLine number output
