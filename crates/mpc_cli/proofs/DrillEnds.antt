-- What comes of a drill, and the answers to it.
use Rattle.std.proofs.Common.{◌≡◌, ◌≢◌, ℕ, List, ◌∙◌, subst}
use Rattle.mpc_plant.specs.declared.plants.Plant.{Plant}
use Rattle.mpc_rows.specs.declared.places.Place.{Place}
use Rattle.mpc_synthesis.specs.Refusals.{controller}
use Rattle.mpc_synthesis.specs.Outcomes.{Outcome, not_definite, too_wide, complete, IsOutcome}
use Rattle.mpc_condense.specs.declared.convex.ProgramError.TheVariants.{NotDefinite as NotDefiniteCause, TooWide as TooWideCause}
use Rattle.mpc_trace.specs.declared.drills.Drilled.{Drilled}
use Rattle.mpc_trace.specs.Drills.{IsDrilled, IsDrillOutcome, ExplainsDrillError, OneDrill, drill_text}
use Rattle.mpc_status.specs.declared.status.Status.{Status}
use Rattle.mpc_status.specs.declared.status.Status.TheVariants.{Done, NotDefinite, TooWide}
use Rattle.mpc_status.specs.StatusText.{line_of}
use Rattle.mpc_cli.specs.declared.commands.Command.TheVariants.{Drill}
use Rattle.mpc_cli.specs.Ends.{ComesOf}
use Rattle.mpc_theorem.specs.DrillLines.{DrilledIsLine}
use Rattle.mpc_cli.specs.StatedOutputs.{IsStatedOutput}
use Rattle.mpc_cli.specs.Statuses.{outcome_status}
use Rattle.mpc_cli.specs.Answers.{DrillPasses}
use Rattle.mpc_cli.specs.Outcomes.{IsAnswerTo}
use Rattle.mpc_cli.proofs.EndLemmas.{done_text, line_text}
use Rattle.mpc_cli.proofs.PlantEnds.{outcome_done}

-- where nothing of the drill's plant is refused, Done is due
pub drill_done : OneDrill → (number : ℕ) (s : Status) → DrillPasses number → ComesOf (IsDrillOutcome number) outcome_status s → s ≡ Done
drill_done one number s passes h =
    h.status_is ∙ outcome_done controller passes.plant h.outcome passes.passes (subst (λ (p : Plant). IsOutcome controller p h.outcome) (one.plant number h.came.plant passes.plant h.came.is passes.is) h.came.comes)

line_answer : (o : Outcome) (number : ℕ) (input : List ℕ) (status : Status) (text : List ℕ) → outcome_status o ≢ Done → IsDrillOutcome number o → status ≡ outcome_status o → text ≡ line_of (outcome_status o)
    → IsAnswerTo (Drill number) input status text
line_answer o number input status text other h e f = record {
  due = record { outcome = o; came = h; status_is = e };
  text_is = line_text (IsStatedOutput (Drill number) input) (outcome_status o) status text other e f;
}

pub not_definite_answer : (pivot : ℕ) (status : Status) (text : List ℕ) → status ≡ NotDefinite pivot → text ≡ line_of (NotDefinite pivot) → (number : ℕ) (input : List ℕ) → ExplainsDrillError number (NotDefiniteCause pivot)
    → IsAnswerTo (Drill number) input status text
not_definite_answer pivot status text e f number input h = line_answer (not_definite pivot) number input status text (λ d. absurd cc) h e f

pub too_wide_answer : (place : Place) (status : Status) (text : List ℕ) → status ≡ TooWide place → text ≡ line_of (TooWide place) → (number : ℕ) (input : List ℕ) → ExplainsDrillError number (TooWideCause place)
    → IsAnswerTo (Drill number) input status text
too_wide_answer place status text e f number input h = line_answer (too_wide place) number input status text (λ d. absurd cc) h e f

pub drilled_answer : DrilledIsLine → (number : ℕ) (counts : Drilled) (status : Status) (text line : List ℕ) → status ≡ Done → text ≡ line → line ≡ drill_text counts → IsDrilled number counts → (input : List ℕ) → IsAnswerTo (Drill number) input status text
drilled_answer is number counts status text line e f written h input = record {
  due = record { outcome = complete; came = record { plant = h.plant; is = h.is; comes = (h.counted.qp, (h.counted.parts, h.counted.controls)) }; status_is = e };
  text_is = done_text (IsStatedOutput (Drill number) input) status text line e f (is number counts line h written, record { counts = counts; drilled = h; written = written });
}
