-- What is written of a plant's controller.
use Rattle.std.proofs.Common.{◌≡◌, ℕ, List, sym, subst}
use Rattle.std.specs.Str.Lines.{lines}
use Rattle.mpc_plant.specs.declared.plants.Plant.{Plant}
use Rattle.mpc_rows.specs.declared.programs.Qp.{Qp}
use Rattle.mpc_controller.specs.Parts.{Parts}
use Rattle.mpc_grammar.specs.declared.versions.Version.TheVariants.{Three}
use Rattle.mpc_grammar.specs.FileGrammar.{Spells}
use Rattle.mpc_grammar.specs.TextTheorems.{OneText}
use Rattle.mpc_table.specs.ReplyLines.{AreRepliesOf, ReplyRightly, RepliesAreRight}
use Rattle.mpc_synthesis.specs.Controllers.{IsController, ControllerIsRight, ControllerReplies, OneController}
use Rattle.mpc_synthesis.specs.Outcomes.{complete}
use Rattle.mpc_synthesis.specs.Programs.{IsDecidedBy}
use Rattle.mpc_claim.specs.Board.{Board}
use Rattle.mpc_trace.specs.Histories.{IsTraceOf}
use Rattle.mpc_cli.specs.Outcomes.{IsOutputFor, IsPlantAnswer}
use Rattle.mpc_cli.proofs.EndLemmas.{done_text}
use Rattle.mpc_cli.specs.ControllerFiles.{IsFileOf}
use Rattle.mpc_cli.specs.declared.commands.PlantCommand.TheVariants.{Run, Compile, Trace}
use Rattle.mpc_status.specs.declared.status.Status.{Status}
use Rattle.mpc_status.specs.declared.status.Status.TheVariants.{Done}

pub file_of : ControllerIsRight → ControllerReplies → OneController → OneText → (plant : Plant) (qp : Qp) (parts : Parts) → IsController plant qp parts → (text : List ℕ) → Spells text Three parts → IsFileOf plant text
file_of right replies one same plant qp parts is text written = record {
  qp = qp;
  parts = parts;
  controller = is;
  written = written;
  only = λ q other other_text their spelled. same other_text text Three parts (subst (Spells other_text Three) (sym (one plant qp q parts other is their)) spelled) written;
  replies = λ t box. replies plant qp parts t is box;
  right = λ t reply box r. right plant qp parts t reply is box r;
}

pub replied : ControllerIsRight → RepliesAreRight → (plant : Plant) (counts text out : List ℕ) (status : Status) (parts : Parts) → ((qp : Qp) × IsController plant qp parts)
    → AreRepliesOf parts (lines counts) text → status ≡ Done → out ≡ text → IsPlantAnswer Run plant counts status out
replied right replies plant counts text out status parts is h e f =
    let rightly : ReplyRightly plant parts = record { plant_is = is.1.is_sealed.plant_is; right = λ t reply box r. right plant is.0 parts t reply is.1 box r } in
    record {
      due = record { outcome = complete; came = (is.0, (parts, is.1)); status_is = e };
      text_is = done_text (IsOutputFor Run plant counts) status out text e f (replies plant parts (lines counts) text rightly h);
    }

pub compiled : ControllerIsRight → ControllerReplies → OneController → OneText → (plant : Plant) (text out : List ℕ) (status : Status) (parts : Parts) → ((qp : Qp) × IsController plant qp parts) → Spells text Three parts → status ≡ Done → out ≡ text
    → (workers : ℕ) (counts : List ℕ) → IsPlantAnswer (Compile workers) plant counts status out
compiled right replies one same plant text out status parts is written e f workers counts = record {
  due = record { outcome = complete; came = (is.0, (parts, is.1)); status_is = e };
  text_is = done_text (IsOutputFor (Compile workers) plant counts) status out text e f (file_of right replies one same plant is.0 parts is.1 text written);
}

pub traced_answers : (board : Board) (text out : List ℕ) (status : Status) → ((workers : ℕ) (plant : Plant) → IsDecidedBy workers plant board → IsTraceOf workers plant text) → status ≡ Done → out ≡ text
    → (workers : ℕ) (plant : Plant) (counts : List ℕ) → IsDecidedBy workers plant board → IsPlantAnswer (Trace workers) plant counts status out
traced_answers board text out status h e f workers plant counts by = record {
  due = record { outcome = complete; came = (by.qp, by.verdicts); status_is = e };
  text_is = done_text (IsOutputFor (Trace workers) plant counts) status out text e f (h workers plant by);
}
