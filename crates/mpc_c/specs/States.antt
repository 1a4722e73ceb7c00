-- The answer to one state of a plant.
use Rattle.std.specs.Prelude.{◌≡◌, ◌≢◌, ℕ, ◌⊎◌, List, length, map, None}
use Rattle.mpc_exact.specs.Rational.{ℚ}
use Rattle.mpc_plant.specs.declared.plants.Plant.{Plant}
use Rattle.mpc_plant.specs.declared.faults.PlantKind.{PlantKind}
use Rattle.mpc_plant.specs.Reply.{move, infeasible}
use Rattle.mpc_plant.specs.Trajectory.{point_of}
use Rattle.mpc_plant.specs.WholePlant.{IsFirstFault}
use Rattle.mpc_rows.specs.declared.programs.Qp.{Qp}
use Rattle.mpc_rows.specs.declared.places.Place.{Place}
use Rattle.mpc_condense.specs.Condensed.{IsCondensed}
use Rattle.mpc_controller.specs.Parts.{limits_of}
use Rattle.mpc_controller.specs.Replies.{first_outside}
use Rattle.mpc_condense.specs.Refusals.{IsNotDefiniteAt}
use Rattle.mpc_synthesis.specs.Refusals.{Extent, FirstWide}
use Rattle.mpc_states.specs.StateLines.{IsTooWide}
use Rattle.mpc_cli.specs.Statuses.{ReadsWith}
use Rattle.mpc_block.specs.declared.replies.Move.{Move}
use Rattle.mpc_c.specs.declared.states.Solved.{Solved}
use Rattle.mpc_c.specs.declared.states.Solved.TheVariants.{Moved, Infeasible, Outside, WideState, BadPlant, NotDefinite, TooWide, NoMemory, OtherSizes}
use Rattle.mpc_c.specs.Fractions.{ratio_of, lowest}
use Rattle.mpc_c.specs.Tables.{IsRightAt}

-- the moves are right at the counts, each in lowest terms
pub record IsSolvedBy (plant : Plant) (counts : List ℕ) (moves : List Move) : Type 0 where
  pub values : List ℚ
  pub right : IsRightAt plant counts (move values)
  pub in_lowest : map ratio_of moves ≡ map lowest values

-- no count is above its limit, and a number of the run at the counts is too wide
pub record IsWideAt (plant : Plant) (counts : List ℕ) : Type 0 where
  pub inside : first_outside (limits_of plant) counts ≡ None
  pub qp : Qp
  pub condensed : IsCondensed qp plant
  pub wide : IsTooWide qp (point_of counts)

-- some count is above its limit
abbrev pub IsOutsideOf : Plant → List ℕ → Type 0
IsOutsideOf plant counts = first_outside (limits_of plant) counts ≢ None

-- not one count for each coordinate, or not one move for each input
abbrev pub HasOtherSizes : ℕ → ℕ → Plant → Type 0
HasOtherSizes counts moves plant = (counts ≢ plant.n) ⊎ (moves ≢ plant.p)

-- some pivot is the first that isn't positive
abbrev pub IsIndefinite : Plant → Type 0
IsIndefinite plant = (pivot : ℕ) × IsNotDefiniteAt plant pivot

-- some place is the first of condensing or the pivots with a number that is too wide, however far the plant is taken
abbrev pub IsWidePlant : Plant → Type 0
IsWidePlant plant = (place : Place) × ((extent : Extent) → FirstWide plant extent place)

-- the bytes fail a check of plant files
abbrev pub IsNoPlant : List ℕ → Type 0
IsNoPlant file = (kind : PlantKind) × ((path : List ℕ) × IsFirstFault file kind path)

-- what an answer to a file, counts and room for so many moves says; nothing is said of want of memory
abbrev pub Says : List ℕ → List ℕ → List Move → Solved → Type 0
Says file counts moves Moved = ReadsWith file (λ plant. IsSolvedBy plant counts moves)
Says file counts moves Infeasible = ReadsWith file (λ plant. IsRightAt plant counts infeasible)
Says file counts moves Outside = ReadsWith file (λ plant. IsOutsideOf plant counts)
Says file counts moves WideState = ReadsWith file (λ plant. IsWideAt plant counts)
Says file counts moves BadPlant = IsNoPlant file
Says file counts moves NotDefinite = ReadsWith file IsIndefinite
Says file counts moves TooWide = ReadsWith file IsWidePlant
Says file counts moves NoMemory = Unit {0}
Says file counts moves OtherSizes = ReadsWith file (HasOtherSizes (length counts) (length moves))
