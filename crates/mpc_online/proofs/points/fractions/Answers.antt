use Rattle.mpc_online.proofs.WholePoints.{whole_few}
use Rattle.mpc_online.proofs.points.fractions.Goals as goal

pub entries-requires : goal.entries-requires
entries-requires c = whole_few c.args.point c.in-Whole.numbers c.in-Whole.count c.in-Whole.is c.requires
