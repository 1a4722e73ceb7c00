-- Why the run for a plant ends is why the run for its file ends.
use Rattle.std.proofs.Common.{◌≡◌, ℕ, List, sym, subst, Result, Ok, Err}
use Rattle.std.specs.Result.{IfErr, IsErrAnd}
use Rattle.mpc_plant.specs.declared.plants.Plant.{Plant}
use Rattle.mpc_plant.specs.WholePlant.{ReadsAsPlant}
use Rattle.mpc_condense.specs.declared.convex.ProgramError.{ProgramError as SynthesisError}
use Rattle.mpc_condense.specs.declared.convex.ProgramError.TheVariants.{NotDefinite as NotDefinitePlant, TooWide as TooWidePlant, NoMemory as NoMoreMemory}
use Rattle.mpc_synthesis.specs.Refusals.{controller, ExplainsSynthesisError}
use Rattle.mpc_bench.specs.declared.phases.Phase.{Phase}
use Rattle.mpc_bench.specs.declared.phases.Stop.{Stop}
use Rattle.mpc_bench.specs.declared.phases.Stop.TheVariants.{Asked, BadPlant, NotDefinite, TooWide, NoMemory, OtherSizes}
use Rattle.mpc_bench.specs.Runs.{stop_of, ExplainsStop, ExplainsEnd}

stopped : (plant : Plant) (last : Phase) (error : SynthesisError) → ExplainsSynthesisError controller plant error → ExplainsStop plant last (stop_of error)
stopped plant last (NotDefinitePlant pivot) h = (pivot, h)
stopped plant last (TooWidePlant place) h = (place, h)
stopped plant last NoMoreMemory h = h

pub refused : {T : Type 0} (plant : Plant) (last : Phase) (error : SynthesisError) (r : Result T Stop) → IsErrAnd r (λ stop. stop ≡ stop_of error) → ExplainsSynthesisError controller plant error → IfErr r (ExplainsStop plant last)
refused plant last error (Ok x) h cause = absurd h
refused plant last error (Err stop) h cause = subst (ExplainsStop plant last) (sym h) (stopped plant last error cause)

pub ended : (file : List ℕ) (counts room : ℕ) (plant : Plant) (last : Phase) (stop : Stop) → ReadsAsPlant file plant → ExplainsStop plant last stop → ExplainsEnd file counts room last stop
ended file counts room plant last Asked read h = h
ended file counts room plant last BadPlant read h = absurd h
ended file counts room plant last NotDefinite read h = record { plant = plant; read = read; holds = h }
ended file counts room plant last TooWide read h = record { plant = plant; read = read; holds = h }
ended file counts room plant last NoMemory read h = h
ended file counts room plant last OtherSizes read h = absurd h
