-- What comes of the file of a plant, and the answers to it.
use Rattle.std.proofs.Common.{◌≡◌, ◌≢◌, ℕ, List, refl, ◌∙◌, ap, subst, length, ◌^◌, ◌<◌}
use Rattle.std.specs.Prelude.{Result, Ok, Err, IfOk}
use Rattle.mpc_plant.specs.declared.plants.Plant.{Plant}
use Rattle.mpc_plant.specs.declared.faults.PlantKind.{PlantKind}
use Rattle.mpc_plant.specs.declared.faults.PlantError.{PlantError}
use Rattle.mpc_plant.specs.declared.faults.PlantError.TheVariants.{Bad, NoMemory as OutOfMemory}
use Rattle.mpc_plant.specs.WholePlant.{ReadsAsPlant, IsFirstFault}
use Rattle.mpc_plant.specs.Readings.{stated, faulty, OneReading}
use Rattle.mpc_rows.specs.declared.places.Place.{Place}
use Rattle.mpc_table.specs.Cut.{head_of, tail_of, count_lines}
use Rattle.mpc_condense.specs.Refusals.{IsNotDefiniteAt}
use Rattle.mpc_synthesis.specs.Refusals.{Extent, FirstWide, ExplainsSynthesisError}
use Rattle.mpc_synthesis.specs.Outcomes.{Outcome, not_definite, too_wide, complete, IsOutcome, OneOutcome}
use Rattle.mpc_condense.specs.declared.convex.ProgramError.{ProgramError as SynthesisError}
use Rattle.mpc_status.specs.declared.status.Status.{Status}
use Rattle.mpc_status.specs.declared.status.Status.TheVariants.{Done, BadPlant, NotDefinite, TooWide}
use Rattle.mpc_status.specs.StatusText.{line_of}
use Rattle.mpc_theorem.specs.PlantFile.{IsPlantText, PlantTextsAreRead}
use Rattle.mpc_theorem.specs.FileOutputs.{CompiledIsOutput}
use Rattle.mpc_theorem.specs.PlantOutputs.{RepliesAreLines}
use Rattle.mpc_theorem.specs.Traces.{TraceIsText}
use Rattle.mpc_cli.specs.declared.commands.Command.TheVariants.{OfPlant}
use Rattle.mpc_cli.specs.declared.commands.PlantCommand.{PlantCommand}
use Rattle.mpc_cli.specs.declared.commands.PlantCommand.TheVariants.{Run, Compile, Trace}
use Rattle.mpc_cli.specs.declared.answer.Answer.{Answer}
use Rattle.mpc_cli.specs.Commands.{plant_text}
use Rattle.mpc_cli.specs.Extents.{extent_of}
use Rattle.mpc_cli.specs.Ends.{ComesOf}
use Rattle.mpc_cli.specs.StatedOutputs.{IsStatedOutput}
use Rattle.mpc_cli.specs.Statuses.{PlantEnd, bad_plant, ends, IsPlantEnd, plant_status, outcome_status, ReadsWith}
use Rattle.mpc_cli.specs.Answers.{PassesAll}
use Rattle.mpc_cli.specs.Outcomes.{IsOutputFor, IsPlantAnswer, IsPlantRefusal, IsAnswerTo}
use Rattle.mpc_cli.proofs.OutputEnds.{few_bytes}
use Rattle.mpc_cli.proofs.EndLemmas.{line_text}

-- ---- one end
same_plant : OneReading → (bytes : List ℕ) (x y : Plant) → ReadsAsPlant bytes x → ReadsAsPlant bytes y → x ≡ y
same_plant one bytes x y h k = let e = one bytes (stated x) (stated y) h k in cc

no_file : OneReading → (bytes : List ℕ) (plant : Plant) (kind : PlantKind) (path : List ℕ) → ReadsAsPlant bytes plant → IsFirstFault bytes kind path → ⊥
no_file one bytes plant kind path h k = let e = one bytes (stated plant) (faulty kind path) h k in cc

one_fault : OneReading → (bytes : List ℕ) (kind other : PlantKind) (path long : List ℕ) → IsFirstFault bytes kind path → IsFirstFault bytes other long → bad_plant kind path ≡ bad_plant other long
one_fault one bytes kind other path long h k = let e = one bytes (faulty kind path) (faulty other long) h k in cc

pub one_end : OneReading → OneOutcome → (extent : Extent) (file : List ℕ) (a b : PlantEnd) → IsPlantEnd extent file a → IsPlantEnd extent file b → a ≡ b
one_end reading one extent file (bad_plant kind path) (bad_plant other long) h k = one_fault reading file kind other path long h k
one_end reading one extent file (bad_plant kind path) (ends o) h k = absurd (no_file reading file k.plant kind path k.read h)
one_end reading one extent file (ends o) (bad_plant kind path) h k = absurd (no_file reading file h.plant kind path h.read k)
one_end reading one extent file (ends o) (ends p) h k =
    let mine : IsOutcome extent k.plant o = subst (λ (q : Plant). IsOutcome extent q o) (same_plant reading file h.plant k.plant h.read k.read) h.so in
    ap ends (one extent k.plant o p mine k.so)

-- ---- where nothing of the plant is refused, Done is due
pub outcome_done : (extent : Extent) (plant : Plant) (o : Outcome) → PassesAll extent plant → IsOutcome extent plant o → outcome_status o ≡ Done
outcome_done extent plant (not_definite pivot) passes h = absurd (h.not_definite (passes.definite h.qp h.has_program.condensed))
outcome_done extent plant (too_wide place) passes h = absurd (passes.fits place h)
outcome_done extent plant complete passes h = refl

pub end_done : OneReading → (extent : Extent) (file : List ℕ) (s : Status) → ReadsWith file (PassesAll extent) → ComesOf (IsPlantEnd extent file) plant_status s → s ≡ Done
end_done reading extent file s passes h = h.status_is ∙ by h.outcome h.came
  where
    by : (e : PlantEnd) → IsPlantEnd extent file e → plant_status e ≡ Done
    by (bad_plant kind path) k = absurd (no_file reading file passes.plant kind path passes.read k)
    by (ends o) k = outcome_done extent passes.plant o passes.so (subst (λ (q : Plant). IsOutcome extent q o) (same_plant reading file k.plant passes.plant k.read passes.read) k.so)

-- ---- the answers
pub refused_answer : (c : PlantCommand) (plant : Plant) (counts : List ℕ) (o : Outcome) (status : Status) (text : List ℕ) → outcome_status o ≢ Done → IsOutcome (extent_of c) plant o → status ≡ outcome_status o → text ≡ line_of (outcome_status o)
    → IsPlantAnswer c plant counts status text
refused_answer c plant counts o status text other cause e f = record {
  due = record { outcome = o; came = cause; status_is = e };
  text_is = line_text (IsOutputFor c plant counts) (outcome_status o) status text other e f;
}

pub not_definite_answer : (pivot : ℕ) (status : Status) (text : List ℕ) → status ≡ NotDefinite pivot → text ≡ line_of (NotDefinite pivot)
    → (c : PlantCommand) (plant : Plant) (counts : List ℕ) → IsNotDefiniteAt plant pivot → IsPlantAnswer c plant counts status text
not_definite_answer pivot status text e f c plant counts cause = refused_answer c plant counts (not_definite pivot) status text (λ d. absurd cc) cause e f

pub too_wide_answer : (place : Place) (status : Status) (text : List ℕ) → status ≡ TooWide place → text ≡ line_of (TooWide place)
    → (c : PlantCommand) (plant : Plant) (counts : List ℕ) → FirstWide plant (extent_of c) place → IsPlantAnswer c plant counts status text
too_wide_answer place status text e f c plant counts cause = refused_answer c plant counts (too_wide place) status text (λ d. absurd cc) cause e f

pub refused_by : {E : Type 0} (r : Result Answer E) (e : SynthesisError) (c : PlantCommand) (plant : Plant) (counts : List ℕ) → ExplainsSynthesisError (extent_of c) plant e
    → IfOk r (λ a. (k : PlantCommand) (p : Plant) (line : List ℕ) → ExplainsSynthesisError (extent_of k) p e → IsPlantAnswer k p line a.status a.text.items) → IfOk r (λ a. IsPlantAnswer c plant counts a.status a.text.items)
refused_by (Ok a) e c plant counts cause h = h c plant counts cause
refused_by (Err error) e c plant counts cause h = tt

-- ---- to the command
output_of : PlantTextsAreRead → RepliesAreLines → CompiledIsOutput → TraceIsText → (c : PlantCommand) (input : List ℕ) (plant : Plant) → ReadsAsPlant (plant_text c input) plant → (text : List ℕ) → length text < 2 ^ 64 → IsOutputFor c plant (tail_of input) text
    → IsStatedOutput (OfPlant c) input text
output_of texts replies outputs traces Run input plant read text short h = record { plant = plant; read = (texts (head_of input) plant).0 read; lines = (replies plant (count_lines input) text).0 h }
output_of texts replies outputs traces (Compile workers) input plant read text short h = outputs input text plant h.qp h.parts short ((texts input plant).0 read) h.controller h.written
output_of texts replies outputs traces (Trace workers) input plant read text short h =
    let is : IsPlantText input plant = (texts input plant).0 read in
    (record { plant = plant; read = is; traced = traces workers plant text h }, record { plant = plant; read = is; traced = h })

answers_command : PlantTextsAreRead → RepliesAreLines → CompiledIsOutput → TraceIsText → (c : PlantCommand) (input : List ℕ) (plant : Plant) (status : Status) (text : List ℕ) → length text < 2 ^ 64 → ReadsAsPlant (plant_text c input) plant
    → IsPlantAnswer c plant (tail_of input) status text → IsAnswerTo (OfPlant c) input status text
answers_command texts replies outputs traces c input plant status text short read a = record {
  due = record { outcome = ends a.due.outcome; came = record { plant = plant; read = read; so = a.due.came }; status_is = a.due.status_is };
  text_is = record { output = λ done. output_of texts replies outputs traces c input plant read text short (a.text_is.output done); line = a.text_is.line };
}

pub answers_commands : PlantTextsAreRead → RepliesAreLines → CompiledIsOutput → TraceIsText → {E : Type 0} (r : Result Answer E) (c : PlantCommand) (input bytes counts : List ℕ) (plant : Plant) → ReadsAsPlant bytes plant → bytes ≡ plant_text c input → counts ≡ tail_of input
    → IfOk r (λ a. IsPlantAnswer c plant counts a.status a.text.items) → IfOk r (λ a. IsAnswerTo (OfPlant c) input a.status a.text.items)
answers_commands texts replies outputs traces (Ok a) c input bytes counts plant read e f h =
    answers_command texts replies outputs traces c input plant a.status a.text.items (few_bytes a.text) (subst (λ (b : List ℕ). ReadsAsPlant b plant) e read) (subst (λ (l : List ℕ). IsPlantAnswer c plant l a.status a.text.items) f h)
answers_commands texts replies outputs traces (Err error) c input bytes counts plant read e f h = tt

bad_answer : (c : PlantCommand) (input : List ℕ) (kind : PlantKind) (path : List ℕ) (status : Status) (text : List ℕ) → IsFirstFault (plant_text c input) kind path
    → (status ≡ BadPlant kind path) × (text ≡ line_of (BadPlant kind path)) → IsAnswerTo (OfPlant c) input status text
bad_answer c input kind path status text fault h = record {
  due = record { outcome = bad_plant kind path; came = fault; status_is = h.0 };
  text_is = line_text (IsStatedOutput (OfPlant c) input) (BadPlant kind path) status text (λ d. absurd cc) h.0 h.1;
}

bad_error : (c : PlantCommand) (input : List ℕ) (error : PlantError) (status : Status) (text : List ℕ) → ((kind : PlantKind) (path : List ℕ) → error ≡ Bad kind path → IsFirstFault (plant_text c input) kind path)
    → IsPlantRefusal error status text → IsAnswerTo (OfPlant c) input status text
bad_error c input (Bad kind path) status text first h = bad_answer c input kind path status text (first kind path refl) h
bad_error c input OutOfMemory status text first h = absurd h

pub bad_answers : {E : Type 0} (r : Result Answer E) (c : PlantCommand) (input bytes : List ℕ) (error : PlantError) → ((kind : PlantKind) (path : List ℕ) → error ≡ Bad kind path → IsFirstFault bytes kind path) → bytes ≡ plant_text c input
    → IfOk r (λ a. IsPlantRefusal error a.status a.text.items) → IfOk r (λ a. IsAnswerTo (OfPlant c) input a.status a.text.items)
bad_answers (Ok a) c input bytes error first e h = bad_error c input error a.status a.text.items (λ kind path k. subst (λ (b : List ℕ). IsFirstFault b kind path) e (first kind path k)) h
bad_answers (Err x) c input bytes error first e h = tt
