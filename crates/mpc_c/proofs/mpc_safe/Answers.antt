use Rattle.std.proofs.Common.{[], ◌∷◌, refl}
use Rattle.std.specs.Prelude.{codes}
use Rattle.mpc_cli.specs.declared.commands.Command.TheVariants.{OfFile}
use Rattle.mpc_cli.specs.declared.commands.FileCommand.TheVariants.{Safe}
use Rattle.mpc_c.proofs.mpc_safe.Goals as goal

pub returns : goal.returns
returns c = c.tell.ensures (OfFile Safe) (codes "safe" ∷ []) c.args.file.now refl c.stayed.ensures
