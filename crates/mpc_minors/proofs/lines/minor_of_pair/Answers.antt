use Rattle.std.proofs.Common.{◌^◌, arith, le_trans}
use Rattle.mpc_runs.proofs.WholeWidths.{read_bound}
use Rattle.mpc_minors.proofs.LineNumbers.{first_small, pair-size}
use Rattle.mpc_minors.proofs.lines.minor_of_pair.Goals as goal

pub crossed-requires-clause-a_small : goal.crossed-requires-clause-a_small
crossed-requires-clause-a_small c = le_trans (first_small 3 c.args.lines.now c.requires.small c.args.first c.requires.first_inside (omega arith)) (omega arith)

pub crossed-requires-clause-c_small : goal.crossed-requires-clause-c_small
crossed-requires-clause-c_small c = le_trans (first_small 3 c.args.lines.now c.requires.small c.args.second c.requires.second_inside (omega arith)) (omega arith)

pub returns-clause-size : goal.returns-clause-size
returns-clause-size c =
    let size = pair-size 3 c.args.lines.now c.requires.small c.args.first c.args.second c.requires.first_inside c.requires.second_inside (omega arith) c.crossed.result c.crossed.ensures in
    read_bound c.crossed.result (2 ^ 39) size (omega arith)
