use Rattle.std.proofs.Common.{◌≡◌, ◌∙◌, ℕ, List, sym, ap, subst}
use Rattle.std.specs.Prelude.{IfOk}
use Rattle.mpc_plant.specs.declared.plants.Plant.{Plant}
use Rattle.mpc_synthesis.specs.Programs.{IsDecidedBy}
use Rattle.mpc_cli.specs.declared.commands.PlantCommand.{PlantCommand}
use Rattle.mpc_cli.specs.declared.commands.PlantCommand.TheVariants.{Compile, Trace}
use Rattle.mpc_cli.specs.Commands.{workers_of}
use Rattle.mpc_cli.specs.Outcomes.{IsPlantAnswer}
use Rattle.mpc_cli.proofs.EndLemmas.{ok_weaker}
use Rattle.mpc_cli.proofs.plant_answers.decided_answer.Goals as goal

pub returns-in-Run : goal.returns-in-Run
returns-in-Run g c = subst (λ (k : PlantCommand). IfOk c.run_answer.result (λ a. IsPlantAnswer k c.args.plant c.args.counts.now a.status a.text.items)) (sym c.in-Run.is) c.run_answer.ensures

pub returns-in-Compile : goal.returns-in-Compile
returns-in-Compile g c =
    let e : c.args.command ≡ Compile (workers_of c.args.command) = c.in-Compile.is ∙ ap Compile (sym (ap workers_of c.in-Compile.is)) in
    ok_weaker c.compile_answer.result (λ a. (workers : ℕ) (counts : List ℕ) → IsPlantAnswer (Compile workers) c.args.plant counts a.status a.text.items)
    (λ a. IsPlantAnswer c.args.command c.args.plant c.args.counts.now a.status a.text.items)
    (λ a h. subst (λ (k : PlantCommand). IsPlantAnswer k c.args.plant c.args.counts.now a.status a.text.items) (sym e) (h (workers_of c.args.command) c.args.counts.now))
    c.compile_answer.ensures

pub returns-in-Trace : goal.returns-in-Trace
returns-in-Trace g c =
    let e : c.args.command ≡ Trace (workers_of c.args.command) = c.in-Trace.is ∙ ap Trace (sym (ap workers_of c.in-Trace.is)) in
    ok_weaker c.trace_answer.result (λ a. (workers : ℕ) (plant : Plant) (counts : List ℕ) → IsDecidedBy workers plant c.args.registry → IsPlantAnswer (Trace workers) plant counts a.status a.text.items)
    (λ a. IsPlantAnswer c.args.command c.args.plant c.args.counts.now a.status a.text.items)
    (λ a h. subst (λ (k : PlantCommand). IsPlantAnswer k c.args.plant c.args.counts.now a.status a.text.items) (sym e) (h (workers_of c.args.command) c.args.plant c.args.counts.now c.requires))
    c.trace_answer.ensures
