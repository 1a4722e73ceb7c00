use Rattle.std.proofs.Common.{ℕ, List}
use Rattle.std.proofs.lemmas.Result.{IfOk-weaker}
use Rattle.mpc_plant.specs.declared.plants.Plant.{Plant}
use Rattle.mpc_cli.specs.declared.commands.PlantCommand.{PlantCommand}
use Rattle.mpc_cli.specs.declared.commands.PlantCommand.TheVariants.{Compile}
use Rattle.mpc_synthesis.specs.Refusals.{ExplainsSynthesisError}
use Rattle.mpc_cli.specs.Extents.{extent_of}
use Rattle.mpc_cli.specs.Outcomes.{IsPlantAnswer}
use Rattle.mpc_cli.proofs.CompileLemmas.{compiled}
use Rattle.mpc_cli.proofs.plant_answers.compile_answer.Goals as goal

pub returns-in_ok-text-in-Ok : goal.returns-in_ok-text-in-Ok
returns-in_ok-text-in-Ok g c = compiled c.right_controller.ensures.right c.right_controller.ensures.replies c.one_controller.ensures c.one_text.ensures c.args.plant c.in_ok-text-in-Ok.text.items c.output.result.text.items c.output.result.status c.in-Ok.parts c.in-Ok.ensures.controller c.in_ok-text-in-Ok.ensures c.output.ensures.status c.output.ensures.text

pub returns-in-Err : goal.returns-in-Err
returns-in-Err g c =
    IfOk-weaker c.plant_refusal.result (λ a. (k : PlantCommand) (plant : Plant) (counts : List ℕ) → ExplainsSynthesisError (extent_of k) plant c.in-Err.error → IsPlantAnswer k plant counts a.status a.text.items)
    (λ a. (workers : ℕ) (counts : List ℕ) → IsPlantAnswer (Compile workers) c.args.plant counts a.status a.text.items)
    (λ a h workers counts. h (Compile workers) c.args.plant counts c.in-Err.ensures.refused)
    c.plant_refusal.ensures
