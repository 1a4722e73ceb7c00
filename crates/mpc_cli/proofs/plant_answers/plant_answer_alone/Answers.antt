use Rattle.std.proofs.Common.{◌∙◌, ℕ, Err, sym, ap, subst}
use Rattle.std.specs.Prelude.{IfOk}
use Rattle.mpc_synthesis.specs.Programs.{IsDecidedBy}
use Rattle.mpc_cli.proofs.PlantEnds.{answers_commands, bad_answers}
use Rattle.mpc_cli.proofs.plant_answers.plant_answer_alone.Goals as goal

pub outcome_answer-requires-clause-decided : goal.outcome_answer-requires-clause-decided
outcome_answer-requires-clause-decided g c = λ lifetimes outlives. subst (λ (n : ℕ). IfOk c.decided-outcome.result (IsDecidedBy n c.in-Ok.plant)) (sym c.requires) c.decided-outcome.ensures.decided

pub returns-in-Ok : goal.returns-in-Ok
returns-in-Ok g c =
    answers_commands c.plant_texts.ensures.read c.output_lines.ensures.replies c.file_output_theorems.ensures.compiled c.trace_theorems.ensures.text c.outcome_answer.result c.args.command c.args.input.now c.plant_sections-sections.result.head.now c.plant_sections-sections.result.counts.now c.in-Ok.plant c.in-Ok.ensures.ok c.plant_sections-sections.ensures.head c.plant_sections-sections.ensures.counts c.outcome_answer.ensures

pub returns-in-Err : goal.returns-in-Err
returns-in-Err g c =
    bad_answers c.plant_error_refusal.result c.args.command c.args.input.now c.plant_sections-sections.result.head.now c.in-Err.error (λ kind path e. c.read_plant.ensures.bad kind path (c.in-Err.is ∙ ap Err e)) c.plant_sections-sections.ensures.head c.plant_error_refusal.ensures
