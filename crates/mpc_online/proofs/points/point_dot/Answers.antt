use Rattle.std.proofs.Common.{◌∙◌, arith}
use Rattle.mpc_online.proofs.WholePoints.{whole_few, whole_size}
use Rattle.mpc_online.proofs.points.point_dot.Goals as goal

pub dot_of_entries-requires-clause-few : goal.dot_of_entries-requires-clause-few
dot_of_entries-requires-clause-few c = whole_few c.args.point.now c.in-Whole.numbers c.in-Whole.count c.in-Whole.is (let s = c.requires.size in let f = c.requires.few in omega (arith, s, f))

pub dot_of_entries-requires-clause-size : goal.dot_of_entries-requires-clause-size
dot_of_entries-requires-clause-size c = c.requires.size ∙ whole_size c.args.point.now c.in-Whole.numbers c.in-Whole.count c.in-Whole.is
