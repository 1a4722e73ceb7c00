-- What is answered to a plant's file and to a controller's.
use Rattle.std.proofs.Common.{◌≡◌, ◌≢◌, ℕ, ◌^◌, ◌<◌, ◌≤◌, List, [], length, refl, sym, subst, arith, lit<}
use Rattle.std.specs.Prelude.{Result, Ok, Err, IfOk, IfErr, codes}
use Rattle.std.specs.Global.{Vec}
use Rattle.mpc_plant.specs.declared.plants.Plant.{Plant}
use Rattle.mpc_plant.specs.declared.faults.PlantKind.{PlantKind}
use Rattle.mpc_plant.specs.declared.faults.PlantError.{PlantError}
use Rattle.mpc_plant.specs.declared.faults.PlantError.TheVariants.{Bad, NoMemory as NoPlantMemory}
use Rattle.mpc_plant.specs.WholePlant.{ReadsAsPlant, IsFirstFault}
use Rattle.mpc_rows.specs.declared.programs.Qp.{Qp}
use Rattle.mpc_controller.specs.Parts.{Parts}
use Rattle.mpc_controller.specs.ReplyTheorems.{RepliesEverywhere}
use Rattle.mpc_grammar.specs.declared.versions.Version.TheVariants.{Three}
use Rattle.mpc_grammar.specs.FileGrammar.{Spells}
use Rattle.mpc_grammar.specs.TextTheorems.{OneText}
use Rattle.mpc_check.specs.Findings.{Finding, refused, too_wide, not_definite}
use Rattle.mpc_check.specs.Acceptance.{Accepts, AcceptedIsRight, IsFound}
use Rattle.mpc_recur.specs.Findings.{Finding as Step, reached, too_wide as too_wide_step}
use Rattle.mpc_recur.specs.Outcomes.{IsSafeOutcome}
use Rattle.mpc_synthesis.specs.Controllers.{IsController, ControllerIsRight, ControllerReplies, OneController}
use Rattle.mpc_synthesis.specs.Refusals.{controller}
use Rattle.mpc_synthesis.specs.Outcomes.{Outcome, complete, IsOutcome}
use Rattle.mpc_files.specs.FileOutcomes.{FileReading, fails, spells, IsFileReading, bad_file, finds, accepted}
use Rattle.mpc_files.specs.FileAnswers.{HasController}
use Rattle.mpc_files.specs.RightForever.{SafeStaysRight}
use Rattle.mpc_files.specs.SafetyOutcomes.{bad_file as bad_safety_file, finds as finds_first, steps, safe}
use Rattle.mpc_theorem.specs.SafeFiles.{DueIsFound}
use Rattle.mpc_status.specs.declared.status.Status.{Status}
use Rattle.mpc_status.specs.declared.status.Status.TheVariants.{Done, BadPlant, TooLong, NoMemory}
use Rattle.mpc_status.specs.StatusText.{line_of}
use Rattle.mpc_theorem.specs.PlantFile.{PlantTextsAreRead}
use Rattle.mpc_theorem.specs.FileOutputs.{CompiledIsOutput, AcceptedIsRightFile}
use Rattle.mpc_cli.specs.declared.commands.Command.{Command}
use Rattle.mpc_cli.specs.declared.commands.Command.TheVariants.{OfPlant, OfFile}
use Rattle.mpc_cli.specs.declared.commands.FileCommand.{FileCommand}
use Rattle.mpc_cli.specs.declared.commands.FileCommand.TheVariants.{Check, Convert, Reply, Safe}
use Rattle.mpc_cli.specs.declared.commands.PlantCommand.TheVariants.{Compile}
use Rattle.mpc_cli.specs.Commands.{CommandReads}
use Rattle.mpc_cli.specs.ControllerFiles.{IsFileOf}
use Rattle.mpc_cli.specs.Ends.{ComesOf, IsTextAt}
use Rattle.mpc_cli.specs.StatedOutputs.{IsStatedOutput}
use Rattle.mpc_cli.specs.Statuses.{bad_plant, ends, outcome_status, finding_status, step_status, reading_status, ComesToFile, ComesTo, DueIsWhatComes}
use Rattle.mpc_cli.specs.Answers.{input_limit, too_long, in_limit}
use Rattle.mpc_cli.specs.Outcomes.{IsPlantAnswer, IsAnswerFor}
use Rattle.mpc_c.specs.Findings.{IsPlantStatus, Checks, IsRefusal, IsCheckRefusal, IsFinding, IsStepFinding}
use Rattle.mpc_c.specs.Texts.{OutcomeOf}

-- ---- texts
line_text : (IsOutput : List ℕ → Type 0) (s : Status) → s ≢ Done → IsTextAt IsOutput s (line_of s)
line_text IsOutput s other = record { output = λ done. absurd (other done); line = λ h. refl }

done_text : (IsOutput : List ℕ → Type 0) (text : List ℕ) → IsOutput text → IsTextAt IsOutput Done text
done_text IsOutput text h = record { output = λ done. h; line = λ other. absurd (other refl) }

-- a vector's bytes are fewer than 2^64
few_bytes : (v : Vec ℕ) → length v.items < 2 ^ 64
few_bytes v = let ok = v.ok in let small = v.small in omega arith

pub told_text : (Answers : Status → List ℕ → Type 0) (bytes : List ℕ) (r : Result (Vec ℕ) Status) → IfOk r (λ t. t.items ≡ bytes) → IfErr r (λ s. s ≡ NoMemory) → Answers Done bytes → OutcomeOf Answers r
told_text Answers bytes (Ok text) is memory h = subst (Answers Done) (sym is) h
told_text Answers bytes (Err s) is memory h = λ other. absurd (other memory)

-- ---- a command whose input isn't too long
pub refusal_for : DueIsWhatComes → (c : Command) (input : List ℕ) (s : Status) → length input ≤ input_limit → ComesTo c input s → s ≢ Done → IsAnswerFor c input s (line_of s)
refusal_for same c input s short due other = record { due = in_limit (λ reads. short) ((same c input s).0 due); text_is = line_text (IsStatedOutput c input) s other }

output_for : DueIsWhatComes → (c : Command) (input text : List ℕ) → length input ≤ input_limit → ComesTo c input Done → IsStatedOutput c input text → IsAnswerFor c input Done text
output_for same c input text short due h = record { due = in_limit (λ reads. short) ((same c input Done).0 due); text_is = done_text (IsStatedOutput c input) text h }

-- and one whose input is
pub long_for : (c : Command) (input : List ℕ) → CommandReads c → input_limit < length input → IsAnswerFor c input TooLong (line_of TooLong)
long_for c input reads long = record { due = too_long reads long refl; text_is = line_text (IsStatedOutput c input) TooLong (λ d. absurd cc) }

-- ---- a plant
module _ (workers : ℕ) (plant : Plant) (counts : List ℕ) where
  pub refused_plant : (o : Outcome) → IsOutcome controller plant o → outcome_status o ≢ Done → IsPlantAnswer (Compile workers) plant counts (outcome_status o) (line_of (outcome_status o))
  refused_plant o cause other = record { due = record { outcome = o; came = cause; status_is = refl }; text_is = line_text (IsFileOf plant) (outcome_status o) other }

  pub file_of : ControllerIsRight → ControllerReplies → OneController → OneText → (qp : Qp) (parts : Parts) → IsController plant qp parts → (text : List ℕ) → Spells text Three parts → IsPlantAnswer (Compile workers) plant counts Done text
  file_of right replies one same qp parts is text written =
      let file : IsFileOf plant text = record {
        qp = qp;
        parts = parts;
        controller = is;
        written = written;
        only = λ q other other_text their spelled. same other_text text Three parts (subst (Spells other_text Three) (sym (one plant qp q parts other is their)) spelled) written;
        replies = λ t box. replies plant qp parts t is box;
        right = λ t reply box r. right plant qp parts t reply is box r;
      } in
      record { due = record { outcome = complete; came = (qp, (parts, is)); status_is = refl }; text_is = done_text (IsFileOf plant) text file }

module _ (same : DueIsWhatComes) (workers : ℕ) (file : List ℕ) (short : length file ≤ input_limit) where
  plant_output : PlantTextsAreRead → CompiledIsOutput → (plant : Plant) → ReadsAsPlant file plant → (s : Status) (text : List ℕ) → (s ≡ Done → length text < 2 ^ 64) → IsPlantAnswer (Compile workers) plant [] s text
      → IsAnswerFor (OfPlant (Compile workers)) file s text
  plant_output texts outputs plant read s text small a = record {
    due = in_limit (λ reads. short) ((same (OfPlant (Compile workers)) file s).0 (record { outcome = ends a.due.outcome; came = record { plant = plant; read = read; so = a.due.came }; status_is = a.due.status_is }));
    text_is = record {
      output = λ done.
          let its = a.text_is.output done in
          outputs file text plant its.qp its.parts (small done) ((texts file plant).0 read) its.controller its.written;
      line = a.text_is.line;
    };
  }

  pub plant_file : PlantTextsAreRead → CompiledIsOutput → (plant : Plant) → ReadsAsPlant file plant → (r : Result (Vec ℕ) Status) → OutcomeOf (IsPlantAnswer (Compile workers) plant []) r → OutcomeOf (IsAnswerFor (OfPlant (Compile workers)) file) r
  plant_file texts outputs plant read (Ok text) h = plant_output texts outputs plant read Done text.items (λ done. few_bytes text) h
  plant_file texts outputs plant read (Err s) h = λ other. plant_output texts outputs plant read s (line_of s) (λ done. subst (λ q. length (line_of q) < 2 ^ 64) (sym done) (omega arith)) (h other)

  bad_file_of : (kind : PlantKind) (path : List ℕ) → IsFirstFault file kind path → IsAnswerFor (OfPlant (Compile workers)) file (BadPlant kind path) (line_of (BadPlant kind path))
  bad_file_of kind path fault = refusal_for same (OfPlant (Compile workers)) file (BadPlant kind path) short (record { outcome = bad_plant kind path; came = fault; status_is = refl }) (λ d. absurd cc)

  pub bad_plant_of : (error : PlantError) (s : Status) → ((kind : PlantKind) (path : List ℕ) → error ≡ Bad kind path → IsFirstFault file kind path) → IsPlantStatus error s → s ≢ NoMemory → IsAnswerFor (OfPlant (Compile workers)) file s (line_of s)
  bad_plant_of (Bad kind path) s first is other = subst (λ q. IsAnswerFor (OfPlant (Compile workers)) file q (line_of q)) (sym is) (bad_file_of kind path (first kind path refl))
  bad_plant_of NoPlantMemory s first is other = absurd (other is)

-- ---- a controller's file
pub unread : (file : List ℕ) (o : FileReading) → IsFileReading file o → reading_status o ≢ Done → IsRefusal Convert file (reading_status o)
unread file o came other = λ in_memory. (record { outcome = o; came = came; status_is = refl }, other)

pub no_refusal : (c : FileCommand) (file : List ℕ) → IsRefusal c file NoMemory
no_refusal c file = λ in_memory. absurd (in_memory refl)

unchecked_by : (file : List ℕ) (s : Status) (o : FileReading) → IsFileReading file o → s ≡ reading_status o → s ≢ Done → (c : FileCommand) → Checks c → ComesToFile c file s
unchecked_by file s (fails kind number) came is other Check u = record { outcome = bad_file kind number; came = came; status_is = is }
unchecked_by file s (fails kind number) came is other Safe u = record { outcome = bad_safety_file kind number; came = came; status_is = is }
unchecked_by file s (fails kind number) came is other Reply u = absurd u
unchecked_by file s (fails kind number) came is other Convert u = absurd u
unchecked_by file s (spells parts) came is other c u = absurd (other is)

-- what isn't read isn't checked
pub unchecked : (file : List ℕ) (s : Status) → IsRefusal Convert file s → IsCheckRefusal file s
unchecked file s h c u in_memory = let due = h in_memory in (unchecked_by file s due.0.outcome due.0.came due.0.status_is due.1 c u, due.1)

found_done : (f : Finding) → finding_status f ≢ Done
found_done (refused spot) = λ d. absurd cc
found_done (too_wide place) = λ d. absurd cc
found_done (not_definite pivot) = λ d. absurd cc

step_done : (f : Step) → step_status f ≢ Done
step_done (reached one pairs) = λ d. absurd cc
step_done (too_wide_step one) = λ d. absurd cc

module _ (file : List ℕ) (parts : Parts) (given : HasController file parts) where
  found_by : (s : Status) → ComesOf (IsFound parts) finding_status s → (c : FileCommand) → Checks c → ComesToFile c file s
  found_by s h Check u = record { outcome = finds h.outcome; came = record { parts = parts; spelled = given.spelled; found = h.came }; status_is = h.status_is }
  found_by s h Safe u = record { outcome = finds_first h.outcome; came = record { parts = parts; spelled = given.spelled; found = h.came }; status_is = h.status_is }
  found_by s h Reply u = absurd u
  found_by s h Convert u = absurd u

  pub found : (s : Status) → IsFinding parts s → IsCheckRefusal file s
  found s h c u in_memory = let f = h in_memory in (found_by s f c u, subst (λ q. q ≢ Done) (sym f.status_is) (found_done f.outcome))

  module _ (same : DueIsWhatComes) (short : length file ≤ input_limit) (accepts : Accepts parts) where
    pub step_found : DueIsFound → (s : Status) → IsStepFinding parts s → IsRefusal Safe file s
    step_found due s h in_memory =
        let l : input_limit < 2 ^ 64 = lit< tt in
        let f = h in_memory in
        let came = (due file (steps f.outcome) (omega (arith, short, l))).1 (record { parts = parts; spelled = given.spelled; accepts = accepts; found = f.came }) in
        (record { outcome = steps f.outcome; came = came; status_is = f.status_is }, subst (λ q. q ≢ Done) (sym f.status_is) (step_done f.outcome))

    pub accepted_file : RepliesEverywhere → AcceptedIsRight → AcceptedIsRightFile → IsAnswerFor (OfFile Check) file Done (codes "accepted\n")
    accepted_file everywhere right is =
        let l : input_limit < 2 ^ 64 = lit< tt in
        output_for same (OfFile Check) file (codes "accepted\n") short
        (record { outcome = accepted; came = record { parts = parts; spelled = given.spelled; accepts = accepts }; status_is = refl }) (
          is file (omega (arith, short, l)) (record {
            file = record { parts = parts; spelled = given.spelled; accepts = accepts };
            of_shape = given.of_shape;
            rightly = record { replies = λ t box. everywhere parts given.of_shape t; right = λ t reply box r. right parts t reply given.of_shape accepts box r };
          }),
          refl,
        )

    pub safe_file : SafeStaysRight → IsSafeOutcome parts → IsAnswerFor (OfFile Safe) file Done (codes "safe\n")
    safe_file stays is =
        output_for same (OfFile Safe) file (codes "safe\n") short
        (record { outcome = safe; came = record { parts = parts; spelled = given.spelled; accepts = accepts; goes_on = is.safe; fits = is.fits }; status_is = refl }) (
          (record { parts = parts; spelled = given.spelled; forever = stays parts given.of_shape accepts is.safe }, refl),
          record { parts = parts; spelled = given.spelled; of_shape = given.of_shape; is = record { accepts = accepts; safe = is; forever = stays parts given.of_shape accepts is.safe } },
        )

pub refused_file : DueIsWhatComes → (c : FileCommand) (file : List ℕ) (s : Status) → length file ≤ input_limit → IsRefusal c file s → s ≢ NoMemory → IsAnswerFor (OfFile c) file s (line_of s)
refused_file same c file s short h in_memory = let due = h in_memory in refusal_for same (OfFile c) file s short due.0 due.1
