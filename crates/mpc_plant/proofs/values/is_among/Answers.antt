use Rattle.std.proofs.lemmas.Bool.Decides.{Decides-at}
use Rattle.mpc_plant.proofs.Names.{listed-Decides}
use Rattle.mpc_plant.proofs.values.is_among.Goals as goal

pub returns : goal.returns
returns c = Decides-at _ _ c.contains.ensures.value (listed-Decides c.args.names.now c.args.name.now)
