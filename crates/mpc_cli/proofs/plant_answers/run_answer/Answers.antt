use Rattle.mpc_cli.specs.declared.commands.PlantCommand.TheVariants.{Run}
use Rattle.mpc_cli.proofs.PlantEnds.{refused_by}
use Rattle.mpc_cli.proofs.CompileLemmas.{replied}
use Rattle.mpc_cli.proofs.plant_answers.run_answer.Goals as goal

pub returns-in_ok-text-in-Ok : goal.returns-in_ok-text-in-Ok
returns-in_ok-text-in-Ok g c = replied c.right_controller.ensures.right c.right_replies.ensures c.args.plant c.args.counts.now c.in_ok-text-in-Ok.text.items c.output.result.text.items c.output.result.status c.in-Ok.parts c.in-Ok.ensures.controller c.in_ok-text-in-Ok.ensures c.output.ensures.status c.output.ensures.text

pub returns-in-Err : goal.returns-in-Err
returns-in-Err g c = refused_by c.plant_refusal.result c.in-Err.error Run c.args.plant c.args.counts.now c.in-Err.ensures.refused c.plant_refusal.ensures
