-- What is answered to a plant file and counts, and why a run ends before its reply.
use Rattle.std.specs.Prelude.{◌≢◌, ℕ, ◌⊎◌, List}
use Rattle.mpc_exact.specs.Rational.{ℚ}
use Rattle.mpc_plant.specs.declared.plants.Plant.{Plant}
use Rattle.mpc_plant.specs.declared.faults.PlantKind.{PlantKind}
use Rattle.mpc_plant.specs.WholePlant.{ReadsAsPlant, IsFirstFault}
use Rattle.mpc_rows.specs.declared.places.Place.{Place}
use Rattle.mpc_condense.specs.declared.convex.ProgramError.{ProgramError as SynthesisError}
use Rattle.mpc_condense.specs.declared.convex.ProgramError.TheVariants.{NotDefinite as NotDefinitePlant, TooWide as TooWidePlant, NoMemory as NoMoreMemory}
use Rattle.mpc_condense.specs.Refusals.{IsNotDefiniteAt}
use Rattle.mpc_synthesis.specs.Refusals.{controller, FirstWide}
use Rattle.mpc_bench.specs.declared.controllers.Sizes.{Sizes}
use Rattle.mpc_bench.specs.declared.replies.Answer.{Answer}
use Rattle.mpc_bench.specs.declared.phases.Phase.{Phase}
use Rattle.mpc_bench.specs.declared.phases.Phase.TheVariants.{Replying}
use Rattle.mpc_bench.specs.declared.phases.Stop.{Stop}
use Rattle.mpc_bench.specs.declared.phases.Stop.TheVariants.{Asked, BadPlant, NotDefinite, TooWide, NoMemory, OtherSizes}
use Rattle.mpc_bench.specs.Answers.{IsAnsweredFor}

-- ---- a plant
-- some pivot is the first that isn't positive, and the Hessian of the program isn't positive definite
abbrev pub IsIndefinite : Plant → Type 0
IsIndefinite plant = (pivot : ℕ) × IsNotDefiniteAt plant pivot

-- some place is the first on the way to the plant's controller with a number of more than 128 bits
abbrev pub IsTooWide : Plant → Type 0
IsTooWide plant = (place : Place) × FirstWide plant controller place

-- how a run ends for a plant that is refused
abbrev pub stop_of : SynthesisError → Stop
stop_of (NotDefinitePlant pivot) = NotDefinite
stop_of (TooWidePlant place) = TooWide
stop_of NoMoreMemory = NoMemory

-- why the run for a plant ends before its reply
abbrev pub ExplainsStop : Plant → Phase → Stop → Type 0
ExplainsStop plant last Asked = last ≢ Replying
ExplainsStop plant last BadPlant = ⊥
ExplainsStop plant last NotDefinite = IsIndefinite plant
ExplainsStop plant last TooWide = IsTooWide plant
ExplainsStop plant last NoMemory = Unit {0}
ExplainsStop plant last OtherSizes = ⊥

-- ---- a file
-- the bytes are the file of a plant of which this holds
pub record IsFileOf (file : List ℕ) (P : Plant → Type 0) : Type 0 where
  pub plant : Plant
  pub read : ReadsAsPlant file plant
  pub holds : P plant

-- the bytes are the file of a plant, to which this is the right answer
abbrev pub IsAnswered : List ℕ → List ℕ → Sizes → List ℚ → Answer → Type 0
IsAnswered file counts sizes moves answer = IsFileOf file (λ plant. IsAnsweredFor plant counts sizes moves answer)

-- the bytes fail a check of plant files
pub record IsNoPlant (file : List ℕ) : Type 0 where
  pub kind : PlantKind
  pub path : List ℕ
  pub fault : IsFirstFault file kind path

-- not one count for each state, or not room for one number for each input
abbrev pub HasOtherSizes : ℕ → ℕ → Plant → Type 0
HasOtherSizes counts room plant = (counts ≢ plant.n) ⊎ (room ≢ plant.p)

-- why there is no answer to so many counts, with room for so many numbers
abbrev pub ExplainsEnd : List ℕ → ℕ → ℕ → Phase → Stop → Type 0
ExplainsEnd file counts room last Asked = last ≢ Replying
ExplainsEnd file counts room last BadPlant = IsNoPlant file
ExplainsEnd file counts room last NotDefinite = IsFileOf file IsIndefinite
ExplainsEnd file counts room last TooWide = IsFileOf file IsTooWide
ExplainsEnd file counts room last NoMemory = Unit {0}
ExplainsEnd file counts room last OtherSizes = IsFileOf file (HasOtherSizes counts room)
