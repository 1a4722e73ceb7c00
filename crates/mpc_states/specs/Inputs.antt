-- What is answered to an input of `solve` and to one of `robust`.
use Rattle.std.specs.Prelude.{◌≡◌, ℕ, List, Option, Some}
use Rattle.std.specs.Str.Lines.{lines}
use Rattle.mpc_exact.specs.Rational.{ℚ}
use Rattle.mpc_plant.specs.declared.plants.Plant.{Plant}
use Rattle.mpc_plant.specs.WholePlant.{ReadsAsPlant}
use Rattle.mpc_plant.specs.Reply.{IsRight}
use Rattle.mpc_rows.specs.declared.programs.Qp.{Qp}
use Rattle.mpc_tight.specs.Disturbed.{IsRobustlyRight}
use Rattle.mpc_tight.specs.Tightened.{IsTightened}
use Rattle.mpc_table.specs.Cut.{head_of, tail_of}
use Rattle.mpc_states.specs.NoisePart.{plant_part, noise_part, noise_from}
use Rattle.mpc_states.specs.StateLines.{AreStateLines}
use Rattle.mpc_condense.specs.Convex.{IsConvexProgram}
use Rattle.mpc_condense.specs.Outcomes.{not_definite, too_wide}
use Rattle.mpc_states.specs.Outcomes.{bad_plant, of_program, IsSolveOutcome, bad_robust_plant, bad_noise, of_robust_program, wide_row, IsOutcomeOf, IsRobustOutcome}
use Rattle.mpc_states.specs.declared.errors.SolveError.{SolveError}
use Rattle.mpc_states.specs.declared.errors.SolveError.TheVariants.{BadPlant, NotDefinite, TooWide, NoMemory}
use Rattle.mpc_states.specs.declared.errors.RobustError.{RobustError}
use Rattle.mpc_states.specs.declared.errors.RobustError.TheVariants.{BadPlant as BadRobustPlant, BadNoise, NotDefinite as NotRobustlyDefinite, TooWide as TooWideRobust, WideRow, NoMemory as NoRobustMemory}
use Rattle.mpc_condense.specs.Refusals.{IsNotDefiniteAt, IsFirstWidePlace}

-- to each line of counts there is one line: at each grid state the reply that is right for the plant, or `too wide` exactly where a number of
-- the online run of its program is too wide
pub record IsSolvedFor (plant : Plant) (counts text : List ℕ) : Type 0 where
  pub qp : Qp
  pub is_convex : IsConvexProgram plant qp
  pub state_lines : AreStateLines (IsRight plant) qp plant.n (lines counts) text

-- likewise with the replies that are robustly right under the noise that the part spells, and the online run of the tightened program
pub record IsRobustlySolvedFor (part : Option (List ℕ)) (plant : Plant) (counts text : List ℕ) : Type 0 where
  pub noise : List ℚ
  pub noise_is : noise_from part plant.n ≡ Some noise
  pub qp : Qp
  pub is_convex : IsConvexProgram plant qp
  pub tight : Qp
  pub is_tightened : IsTightened plant noise qp tight
  pub state_lines : AreStateLines (IsRobustlyRight plant noise) tight plant.n (lines counts) text

-- the head of the input is the file of a plant, and the lines of counts behind it are answered
pub record IsSolved (input text : List ℕ) : Type 0 where
  pub plant : Plant
  pub read : ReadsAsPlant (head_of input) plant
  pub solved : IsSolvedFor plant (tail_of input) text

-- the head has the file of a plant before its first line `noise`
pub record IsRobustlySolved (input text : List ℕ) : Type 0 where
  pub plant : Plant
  pub read : ReadsAsPlant (plant_part (head_of input)) plant
  pub solved : IsRobustlySolvedFor (noise_part (head_of input)) plant (tail_of input) text

-- ---- why nothing is answered; nothing is said of want of memory
-- for a plant that is read
abbrev pub IsSolveCauseFor : Plant → SolveError → Type 0
IsSolveCauseFor plant (BadPlant kind path) = ⊥
IsSolveCauseFor plant (NotDefinite pivot) = IsNotDefiniteAt plant pivot
IsSolveCauseFor plant (TooWide place) = IsFirstWidePlace plant place
IsSolveCauseFor plant NoMemory = Unit {0}

abbrev pub IsRobustCauseFor : Option (List ℕ) → Plant → RobustError → Type 0
IsRobustCauseFor part plant (BadRobustPlant kind path) = ⊥
IsRobustCauseFor part plant BadNoise = IsOutcomeOf part plant bad_noise
IsRobustCauseFor part plant (NotRobustlyDefinite pivot) = IsOutcomeOf part plant (of_robust_program (not_definite pivot))
IsRobustCauseFor part plant (TooWideRobust place) = IsOutcomeOf part plant (of_robust_program (too_wide place))
IsRobustCauseFor part plant (WideRow row) = IsOutcomeOf part plant (wide_row row)
IsRobustCauseFor part plant NoRobustMemory = Unit {0}

-- for an input
abbrev pub IsSolveCause : List ℕ → SolveError → Type 0
IsSolveCause input (BadPlant kind path) = IsSolveOutcome input (bad_plant kind path)
IsSolveCause input (NotDefinite pivot) = IsSolveOutcome input (of_program (not_definite pivot))
IsSolveCause input (TooWide place) = IsSolveOutcome input (of_program (too_wide place))
IsSolveCause input NoMemory = Unit {0}

abbrev pub IsRobustCause : List ℕ → RobustError → Type 0
IsRobustCause input (BadRobustPlant kind path) = IsRobustOutcome input (bad_robust_plant kind path)
IsRobustCause input BadNoise = IsRobustOutcome input bad_noise
IsRobustCause input (NotRobustlyDefinite pivot) = IsRobustOutcome input (of_robust_program (not_definite pivot))
IsRobustCause input (TooWideRobust place) = IsRobustOutcome input (of_robust_program (too_wide place))
IsRobustCause input (WideRow row) = IsRobustOutcome input (wide_row row)
IsRobustCause input NoRobustMemory = Unit {0}
