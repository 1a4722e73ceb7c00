use Rattle.mpc_plant_lines.proofs.MirrorLemmas.{same_number}
use Rattle.mpc_plant_lines.proofs.plant_lines.are_equal.Goals as goal

pub returns-in-Equal : goal.returns-in-Equal
returns-in-Equal c = same_number c.args.left.now c.args.right.now c.cmp.result c.cmp.ensures c.in-Equal.is
