use Rattle.std.proofs.Common.{◌^◌, arith}
use Rattle.mpc_runs.proofs.WholeWidths.{read_bound}
use Rattle.mpc_minors.proofs.LineNumbers.{pair-size}
use Rattle.mpc_minors.proofs.lines.minor_of_two.Goals as goal

pub returns-clause-size : goal.returns-clause-size
returns-clause-size c =
    let size = pair-size 2 c.args.lines.now c.requires.small c.args.first c.args.second c.requires.first_inside c.requires.second_inside (omega arith) c.crossed.result c.crossed.ensures in
    read_bound c.crossed.result (2 ^ 61) size (omega arith)
