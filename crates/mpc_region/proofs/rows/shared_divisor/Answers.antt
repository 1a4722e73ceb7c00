use Rattle.std.proofs.Common.{◌≡◌, ◌^◌, ◌+◌, unsigned_abs, arith}
use Rattle.mpc_region.specs.SweptRows.{number_from}
use Rattle.mpc_region.proofs.SweptDivisors.{shared_none, shared_more, shared_one, shared_small, read_size}
use Rattle.mpc_region.proofs.rows.shared_divisor.Goals as goal
use Rattle.mpc_region.proofs.rows.shared_divisor.Goals.{After-shared_with-shared}

size : (c : After-shared_with-shared) → c.unsigned_abs.result ≡ unsigned_abs (number_from c.args.table.now c.args.row c.args.first c.loop-index.index)
size c = read_size c.at.result (number_from c.args.table.now c.args.row c.args.first c.loop-index.index) c.at.ensures (c.requires.table.small.each _) c.unsigned_abs.result c.unsigned_abs.ensures.value

pub loop-index-init : goal.loop-index-init
loop-index-init c = record { shared = shared_none (number_from c.args.table.now c.args.row c.args.first); small = omega arith }

pub returns-then-shared-eq1-clause-shared : goal.returns-then-shared-eq1-clause-shared
returns-then-shared-eq1-clause-shared c =
    let at = goal.at.returns-then-shared-eq1-clause-shared c in
    let f = number_from c.args.table.now c.args.row c.args.first in
    shared_one f (c.loop-index.index + 1) c.args.count c.shared_with-shared.result 1 (omega arith) c.if-shared-eq1.true (omega arith)
    (shared_more f c.loop-index.index c.loop-index.shared c.unsigned_abs.result c.shared_with-shared.result (size at.After-shared_with-shared) c.shared_with-shared.ensures c.loop-index.invariant.shared)

pub loop-index-preserved : goal.loop-index-preserved
loop-index-preserved c =
    let at = goal.at.loop-index-preserved c in
    let f = number_from c.args.table.now c.args.row c.args.first in
    record {
      shared = shared_more f c.loop-index.index c.loop-index.shared c.unsigned_abs.result c.shared_with-shared.result (size at.After-shared_with-shared) c.shared_with-shared.ensures c.loop-index.invariant.shared;
      small = shared_small c.loop-index.shared c.unsigned_abs.result c.shared_with-shared.result (2 ^ 62) (f c.loop-index.index) (size at.After-shared_with-shared)
          (c.requires.table.small.each _) c.shared_with-shared.ensures c.loop-index.invariant.small;
    }
