use Rattle.std.proofs.Common.{arith}
use Rattle.mpc_plant_lines.proofs.MirrorLemmas.{symmetric_is}
use Rattle.mpc_plant_lines.proofs.plant_lines.is_symmetric.Goals as goal

pub returns : goal.returns
returns c = symmetric_is c.args.matrix.now c.args.size c.requires (λ i h. c.loop-row.invariant i (omega arith))
