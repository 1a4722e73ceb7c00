use Rattle.std.proofs.Common.{inr, refl}
use Rattle.std.specs.Prelude.{codes}
use Rattle.mpc_cli.specs.declared.commands.Command.TheVariants.{OfPlant}
use Rattle.mpc_cli.specs.declared.commands.PlantCommand.TheVariants.{Compile}
use Rattle.mpc_cli.specs.Commands.{with_workers}
use Rattle.mpc_c.proofs.mpc_compile.Goals as goal

pub returns-clause-answers : goal.returns-clause-answers
returns-clause-answers c = λ is. c.tell.ensures (OfPlant (Compile c.args.workers)) (with_workers (codes "compile") c.args.workers) c.args.plant.now (inr (is, refl)) (c.compiled.ensures c.args.workers)
