use Rattle.std.proofs.Common.{ℕ, List, subst}
use Rattle.mpc_plant.specs.declared.plants.Plant.{Plant}
use Rattle.mpc_synthesis.specs.Refusals.{ExplainsSynthesisError}
use Rattle.mpc_status.specs.declared.status.Status.TheVariants.{NotDefinite, TooWide}
use Rattle.mpc_cli.specs.declared.commands.PlantCommand.{PlantCommand}
use Rattle.mpc_cli.specs.Extents.{extent_of}
use Rattle.mpc_cli.specs.Outcomes.{IsPlantAnswer}
use Rattle.mpc_cli.proofs.EndLemmas.{of_refusal}
use Rattle.mpc_cli.proofs.PlantEnds.{not_definite_answer, too_wide_answer}
use Rattle.mpc_cli.proofs.plant_answers.plant_refusal.Goals as goal

pub returns-in-NotDefinite : goal.returns-in-NotDefinite
returns-in-NotDefinite c =
    of_refusal c.refusal.result (NotDefinite c.in-NotDefinite.pivot) (λ a. (k : PlantCommand) (plant : Plant) (counts : List ℕ) → ExplainsSynthesisError (extent_of k) plant c.args.error → IsPlantAnswer k plant counts a.status a.text.items)
    c.refusal.ensures.status c.refusal.ensures.text (λ a e f k plant counts h. not_definite_answer c.in-NotDefinite.pivot a.status a.text.items e f k plant counts (subst (ExplainsSynthesisError (extent_of k) plant) c.in-NotDefinite.is h))

pub returns-in-TooWide : goal.returns-in-TooWide
returns-in-TooWide c =
    of_refusal c.refusal-in-TooWide.result (TooWide c.in-TooWide.place) (λ a. (k : PlantCommand) (plant : Plant) (counts : List ℕ) → ExplainsSynthesisError (extent_of k) plant c.args.error → IsPlantAnswer k plant counts a.status a.text.items)
    c.refusal-in-TooWide.ensures.status c.refusal-in-TooWide.ensures.text (λ a e f k plant counts h. too_wide_answer c.in-TooWide.place a.status a.text.items e f k plant counts (subst (ExplainsSynthesisError (extent_of k) plant) c.in-TooWide.is h))
