use Rattle.std.proofs.Common.{◌+◌, ◌*◌, ◌^◌, arith, le_trans}
use Rattle.mpc_scaled.specs.Scaled.{whole_at}
use Rattle.mpc_runs.proofs.WholeWidths.{read_bound}
use Rattle.mpc_minors.proofs.LineNumbers.{expanded-size, number_small, read}
use Rattle.mpc_minors.proofs.lines.minor_of_three.Goals as goal

pub returns-clause-size : goal.returns-clause-size
returns-clause-size c =
    let lines = c.args.lines.now in
    let small = c.requires.small in
    let a = number_small 3 lines small c.args.first c.requires.first_inside 2 (omega arith) in
    let b = number_small 3 lines small c.args.second c.requires.second_inside 2 (omega arith) in
    let d = number_small 3 lines small c.args.third c.requires.third_inside 2 (omega arith) in
    let x = read_bound c.minor_of_pair.result (2 ^ 39) c.minor_of_pair.ensures.size (omega arith) in
    let y = read_bound c.minor_of_pair-2.result (2 ^ 39) c.minor_of_pair-2.ensures.size (omega arith) in
    let z = read_bound c.minor_of_pair-3.result (2 ^ 39) c.minor_of_pair-3.ensures.size (omega arith) in
    let size =
    expanded-size (2 ^ 19) (2 ^ 39) (read (whole_at lines (c.args.first * 4 + 2))) (read (whole_at lines (c.args.second * 4 + 2))) (read (whole_at lines (c.args.third * 4 + 2)))
    (read c.minor_of_pair.result) (read c.minor_of_pair-2.result) (read c.minor_of_pair-3.result) c.expanded.result a b d x y z c.expanded.ensures
    in
    read_bound c.expanded.result (2 ^ 61) (le_trans size (omega arith)) (omega arith)
