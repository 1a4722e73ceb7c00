use Rattle.mpc_status.specs.declared.status.Status.TheVariants.{TooManyPlants}
use Rattle.mpc_cli.specs.declared.commands.Command.TheVariants.{Fleet}
use Rattle.mpc_cli.specs.Outcomes.{IsAnswerTo}
use Rattle.mpc_cli.proofs.EndLemmas.{of_refusal}
use Rattle.mpc_cli.proofs.OutputEnds.{few_bytes}
use Rattle.mpc_cli.proofs.FleetEnds.{too_many_answer, fleet_answers}
use Rattle.mpc_cli.proofs.fleet_answers.fleet_answer.Goals as goal

pub returns-in-Ok : goal.returns-in-Ok
returns-in-Ok g c =
    fleet_answers c.due_statuses.ensures c.plant_texts.ensures.read c.file_output_theorems.ensures.compiled c.args.workers c.args.input.now c.output.result.status c.output.result.text.items c.in-Ok.text.items c.output.ensures.status c.output.ensures.text (few_bytes c.in-Ok.text) c.in-Ok.ensures.few c.in-Ok.ensures.answered

pub returns-in-Err-TooManyPlants : goal.returns-in-Err-TooManyPlants
returns-in-Err-TooManyPlants g c =
    of_refusal c.refusal.result TooManyPlants (λ a. IsAnswerTo (Fleet c.args.workers) c.args.input.now a.status a.text.items) c.refusal.ensures.status c.refusal.ensures.text
    (λ a e f. too_many_answer c.args.workers c.args.input.now a.status a.text.items (c.in-Err-TooManyPlants.ensures.too_many c.in-Err-TooManyPlants.field-0-is) e f)
