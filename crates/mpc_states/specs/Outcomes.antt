-- What comes of an input of `solve` and of one of `robust`: the first refusal, or replies.
use Rattle.std.specs.Prelude.{◌≡◌, ◌≢◌, ℕ, List, Option, Some, None}
use Rattle.mpc_exact.specs.Rational.{ℚ}
use Rattle.mpc_plant.specs.declared.faults.PlantKind.{PlantKind}
use Rattle.mpc_plant.specs.declared.plants.Plant.{Plant}
use Rattle.mpc_plant.specs.WholePlant.{ReadsAsPlant, IsFirstFault}
use Rattle.mpc_rows.specs.declared.programs.Qp.{Qp}
use Rattle.mpc_condense.specs.Causes.{row_count}
use Rattle.mpc_tight.specs.Tightening.{RowsFit, IsWideRow}
use Rattle.mpc_table.specs.Cut.{head_of}
use Rattle.mpc_states.specs.NoisePart.{plant_part, noise_part, noise_from}
use Rattle.mpc_condense.specs.Convex.{IsConvexProgram}
use Rattle.mpc_condense.specs.Outcomes.{ProgramOutcome, convex, IsProgramOutcome}

-- a text is the file of a plant of which something holds
pub record OfPlant (text : List ℕ) (holds : Plant → Type 0) : Type 0 where
  pub plant : Plant
  pub read : ReadsAsPlant text plant
  pub so : holds plant

-- ---- `solve`
-- the first check of the plant's file that fails, or what comes of its program; where that is convex, there are replies
pub data SolveOutcome : Type 0 where
  bad_plant : PlantKind → List ℕ → SolveOutcome
  of_program : ProgramOutcome → SolveOutcome

abbrev pub IsSolveOutcome : List ℕ → SolveOutcome → Type 0
IsSolveOutcome input (bad_plant kind path) = IsFirstFault (head_of input) kind path
IsSolveOutcome input (of_program outcome) = OfPlant (head_of input) (λ plant. IsProgramOutcome plant outcome)

-- at most one outcome is that of an input
abbrev pub OneSolveOutcome : Type 0
OneSolveOutcome = (input : List ℕ) (one other : SolveOutcome) → IsSolveOutcome input one → IsSolveOutcome input other → one ≡ other

-- ---- `robust`
pub data RobustOutcome : Type 0 where
  bad_robust_plant : PlantKind → List ℕ → RobustOutcome
  bad_noise : RobustOutcome
  of_robust_program : ProgramOutcome → RobustOutcome
  -- the program is convex, and its row, from 1, is the first whose tightening is too wide
  wide_row : ℕ → RobustOutcome
  -- the tightened program has replies
  robust_replies : RobustOutcome

-- the part of an input that is to be the noise is that of the plant, and something holds of it
pub record WithNoise (part : Option (List ℕ)) (plant : Plant) (holds : List ℚ → Type 0) : Type 0 where
  pub noise : List ℚ
  pub noise_is : noise_from part plant.n ≡ Some noise
  pub so : holds noise

-- and the plant has a convex program
pub record WithProgram (plant : Plant) (holds : Qp → Type 0) : Type 0 where
  pub qp : Qp
  pub is_convex : IsConvexProgram plant qp
  pub so : holds qp

-- what comes of a plant and the part that is to be its noise
abbrev pub IsOutcomeOf : Option (List ℕ) → Plant → RobustOutcome → Type 0
IsOutcomeOf part plant (bad_robust_plant kind path) = ⊥
IsOutcomeOf part plant bad_noise = noise_from part plant.n ≡ None
IsOutcomeOf part plant (of_robust_program outcome) = WithNoise part plant (λ noise. (outcome ≢ convex) × IsProgramOutcome plant outcome)
IsOutcomeOf part plant (wide_row row) = WithNoise part plant (λ noise. WithProgram plant (λ qp. IsWideRow plant noise qp.w row))
IsOutcomeOf part plant robust_replies = WithNoise part plant (λ noise. WithProgram plant (λ qp. RowsFit plant noise qp.w (row_count plant)))

-- of an input whose head has the plant's file before the line `noise`
abbrev pub OfRobustPlant : List ℕ → RobustOutcome → Type 0
OfRobustPlant input outcome = OfPlant (plant_part (head_of input)) (λ plant. IsOutcomeOf (noise_part (head_of input)) plant outcome)

abbrev pub IsRobustOutcome : List ℕ → RobustOutcome → Type 0
IsRobustOutcome input (bad_robust_plant kind path) = IsFirstFault (plant_part (head_of input)) kind path
IsRobustOutcome input bad_noise = OfRobustPlant input bad_noise
IsRobustOutcome input (of_robust_program outcome) = OfRobustPlant input (of_robust_program outcome)
IsRobustOutcome input (wide_row row) = OfRobustPlant input (wide_row row)
IsRobustOutcome input robust_replies = OfRobustPlant input robust_replies

abbrev pub OneRobustOutcome : Type 0
OneRobustOutcome = (input : List ℕ) (one other : RobustOutcome) → IsRobustOutcome input one → IsRobustOutcome input other → one ≡ other
