use Rattle.std.proofs.Common.{[], ◌∷◌, refl}
use Rattle.std.specs.Prelude.{codes}
use Rattle.mpc_cli.specs.declared.commands.Command.TheVariants.{OfFile}
use Rattle.mpc_cli.specs.declared.commands.FileCommand.TheVariants.{Check}
use Rattle.mpc_c.proofs.mpc_check.Goals as goal

pub returns : goal.returns
returns c = c.tell.ensures (OfFile Check) (codes "check" ∷ []) c.args.file.now refl c.checked.ensures
