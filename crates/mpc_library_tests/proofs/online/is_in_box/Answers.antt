use Rattle.std.proofs.Common.{◌≡◌, ◌≤◌, length, arith}
use Rattle.mpc_library_tests.proofs.SmallPrograms.{one_in_box}
use Rattle.mpc_library_tests.proofs.online.is_in_box.Goals as goal

pub returns : goal.returns
returns c =
    let one : length c.args.counts.now ≡ 1 = omega arith in
    let most : c.args.count ≤ c.at.result.now = omega arith in
    λ _. one_in_box c.args.counts.now c.args.count c.at.result.now one c.at.ensures most
