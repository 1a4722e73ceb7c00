-- What comes of several plants, and the answers to them.
use Rattle.std.proofs.Common.{◌≡◌, ℕ, ◌^◌, ◌<◌, ◌≤◌, List, length, sym, subst}
use Rattle.mpc_sections.specs.Sections.{sections_of}
use Rattle.mpc_sections.specs.Alone.{AreAnswered}
use Rattle.mpc_status.specs.declared.status.Status.{Status}
use Rattle.mpc_status.specs.declared.status.Status.TheVariants.{Done, TooManyPlants}
use Rattle.mpc_status.specs.StatusText.{line_of}
use Rattle.mpc_cli.specs.declared.commands.Command.TheVariants.{Fleet}
use Rattle.mpc_theorem.specs.PlantFile.{PlantTextsAreRead}
use Rattle.mpc_theorem.specs.FileOutputs.{IsCompiled, IsTheFile, CompiledIsOutput}
use Rattle.mpc_cli.specs.StatedOutputs.{IsStatedOutput}
use Rattle.mpc_cli.specs.Statuses.{DueIsWhatComes}
use Rattle.mpc_cli.proofs.OutputEnds.{sections_answered}
use Rattle.mpc_cli.specs.Causes.{IsDueTo}
use Rattle.mpc_cli.specs.Outcomes.{IsAnswerTo}
use Rattle.mpc_cli.proofs.EndLemmas.{done_text, line_text}

pub too_many_answer : (workers : ℕ) (input : List ℕ) (status : Status) (text : List ℕ) → 8 < length (sections_of input) → status ≡ TooManyPlants → text ≡ line_of TooManyPlants → IsAnswerTo (Fleet workers) input status text
too_many_answer workers input status text many e f = record {
  due = subst (IsDueTo (Fleet workers) input) (sym e) many;
  text_is = line_text (IsStatedOutput (Fleet workers) input) TooManyPlants status text (λ d. absurd cc) e f;
}

pub fleet_answers : DueIsWhatComes → PlantTextsAreRead → CompiledIsOutput → (workers : ℕ) (input : List ℕ) (status : Status) (text out : List ℕ) → status ≡ Done → text ≡ out → length out < 2 ^ 64
    → length (sections_of input) ≤ 8 → AreAnswered 1 (sections_of input) out → IsAnswerTo (Fleet workers) input status text
fleet_answers same texts outputs workers input status text out e f short few h = record {
  due = subst (IsDueTo (Fleet workers) input) (sym e) few;
  text_is = done_text (IsStatedOutput (Fleet workers) input) status text out e f (
    sections_answered same IsCompiled (λ section file plant small read is. (outputs section file plant is.qp is.parts small ((texts section plant).0 read) is.controller is.written).0) 1 (sections_of input) out short h,
    sections_answered same IsTheFile (λ section file plant small read is. (outputs section file plant is.qp is.parts small ((texts section plant).0 read) is.controller is.written).1) 1 (sections_of input) out short h,
  );
}
