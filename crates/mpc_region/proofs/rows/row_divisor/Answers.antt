use Rattle.std.proofs.Common.{◌≡◌, ◌^◌, ◌+◌, suc, unsigned_abs, ap, ◌∙◌, arith}
use Rattle.mpc_sweep.specs.Numbers.{number}
use Rattle.mpc_region.specs.SweptRows.{number_from}
use Rattle.mpc_region.proofs.SweptDivisors.{shared_first, shared_small, read_size}
use Rattle.mpc_region.proofs.rows.row_divisor.Goals as goal
use Rattle.mpc_region.proofs.rows.row_divisor.Goals.{After-unsigned_abs}

size : (c : After-unsigned_abs) → c.unsigned_abs.result ≡ unsigned_abs (number_from c.args.table.now c.args.row c.args.first 0)
size c =
    read_size c.at.result (number_from c.args.table.now c.args.row c.args.first 0) (c.at.ensures ∙ ap (number c.args.table.now c.args.row) (omega arith)) (c.requires.table.small.each _) c.unsigned_abs.result
    c.unsigned_abs.ensures.value

pub returns-clause-shared : goal.returns-clause-shared
returns-clause-shared c =
    let at = goal.at.returns-clause-shared c in
    let s = c.args.table.now in
    shared_first (number_from s c.args.row c.args.first) (number_from s c.args.row (c.args.first + 1)) c.args.sides c.shared_divisor-shared.result c.unsigned_abs.result c.shared_with.result
    (λ j. let e : c.args.first + 1 + j ≡ c.args.first + suc j = omega arith in ap (number s c.args.row) e)
    (size at.After-unsigned_abs) c.shared_with.ensures c.shared_divisor-shared.ensures.shared

pub returns-clause-small : goal.returns-clause-small
returns-clause-small c =
    let at = goal.at.returns-clause-small c in
    shared_small c.shared_divisor-shared.result c.unsigned_abs.result c.shared_with.result (2 ^ 62) (number_from c.args.table.now c.args.row c.args.first 0) (size at.After-unsigned_abs)
    (c.requires.table.small.each _) c.shared_with.ensures c.shared_divisor-shared.ensures.small
