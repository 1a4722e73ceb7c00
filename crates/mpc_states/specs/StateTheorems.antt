-- What holds of all inputs of `solve` and `robust`, and of the replies that a program gives.
use Rattle.std.specs.Prelude.{◌≡◌, ℕ, List, Some}
use Rattle.mpc_exact.specs.Rational.{ℚ}
use Rattle.mpc_space.specs.Definite.{IsDefinite}
use Rattle.mpc_plant.specs.declared.plants.Plant.{Plant}
use Rattle.mpc_plant.specs.WholePlant.{ReadsAsPlant}
use Rattle.mpc_plant.specs.Reply.{Reply, IsRight}
use Rattle.mpc_rows.specs.declared.places.Place.{Place}
use Rattle.mpc_rows.specs.declared.programs.Qp.{Qp}
use Rattle.mpc_rows.specs.ActiveSets.{IsInBox}
use Rattle.mpc_condense.specs.Condensed.{IsCondensed}
use Rattle.mpc_tight.specs.Disturbed.{IsRobustlyRight}
use Rattle.mpc_tight.specs.Tightened.{IsRobustProgram}
use Rattle.mpc_tight.specs.Tightening.{IsWideRow}
use Rattle.mpc_table.specs.Cut.{head_of}
use Rattle.mpc_states.specs.NoisePart.{plant_part, noise_in}
use Rattle.mpc_states.specs.StateLines.{IsOf}
use Rattle.mpc_condense.specs.Refusals.{IsFirstWidePlace}
use Rattle.mpc_condense.specs.Outcomes.{convex}
use Rattle.mpc_states.specs.Outcomes.{SolveOutcome, of_program, IsSolveOutcome, RobustOutcome, robust_replies, IsRobustOutcome}

-- ---- replies
-- what the plant's program says at a point of the box is right
abbrev pub ProgramIsRight : Type 0
ProgramIsRight = (plant : Plant) (qp : Qp) (t : List ℚ) (reply : Reply) → IsCondensed qp plant → IsInBox qp.counts t → IsOf qp plant.p t reply → IsRight plant t reply

-- what a robust program of the plant says there is robustly right
abbrev pub RobustProgramIsRight : Type 0
RobustProgramIsRight = (plant : Plant) (noise : List ℚ) (qp : Qp) (t : List ℚ) (reply : Reply) → IsRobustProgram qp plant noise → IsInBox qp.counts t → IsOf qp plant.p t reply → IsRobustlyRight plant noise t reply

-- ---- inputs of which nothing is refused
-- the head is the file of a plant whose program has a positive definite Hessian, and no number of condensing and pivots is too wide
pub record NothingRefused (text : List ℕ) (plant : Plant) : Type 0 where
  pub read : ReadsAsPlant text plant
  pub definite : (qp : Qp) → IsCondensed qp plant → IsDefinite qp.h.rows
  pub fits : (place : Place) → ¬ IsFirstWidePlace plant place

-- then no outcome but replies is that of the input
abbrev pub SolveIsComplete : Type 0
SolveIsComplete = (input : List ℕ) (plant : Plant) (outcome : SolveOutcome) → NothingRefused (head_of input) plant → IsSolveOutcome input outcome → outcome ≡ of_program convex

-- likewise where there is a noise too, and no row of the program is too wide to be tightened
pub record NothingRobustRefused (input : List ℕ) (plant : Plant) (noise : List ℚ) : Type 0 where
  pub of_plant : NothingRefused (plant_part (head_of input)) plant
  pub noise_is : noise_in input plant.n ≡ Some noise
  pub rows_fit : (qp : Qp) (row : ℕ) → IsCondensed qp plant → ¬ IsWideRow plant noise qp.w row

abbrev pub RobustIsComplete : Type 0
RobustIsComplete = (input : List ℕ) (plant : Plant) (noise : List ℚ) (outcome : RobustOutcome) → NothingRobustRefused input plant noise → IsRobustOutcome input outcome → outcome ≡ robust_replies
