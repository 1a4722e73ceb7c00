use Rattle.std.proofs.lemmas.Option.{IfSome_then}
use Rattle.mpc_rows.specs.Run.{last_position}
use Rattle.mpc_whole.proofs.WholeRun.{values_paired}
use Rattle.mpc_whole.proofs.whole_ends.last_values.Goals as goal

pub returns : goal.returns
returns c = IfSome_then c.point.result c.point.ensures (λ u pairs. values_paired c.args._system.now (last_position c.args._system.now) c.args.den c.args.firsts.now c.args.seconds.now c.point.new.values c.requires.first_size c.requires.are pairs)
