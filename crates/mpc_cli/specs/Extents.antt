-- How far each command takes its plant.
use Rattle.mpc_synthesis.specs.Refusals.{Extent, verdicts, controller}
use Rattle.mpc_cli.specs.declared.commands.PlantCommand.{PlantCommand}
use Rattle.mpc_cli.specs.declared.commands.PlantCommand.TheVariants.{Run, Compile, Trace}

abbrev pub extent_of : PlantCommand → Extent
extent_of Run = controller
extent_of (Compile workers) = controller
extent_of (Trace workers) = verdicts
