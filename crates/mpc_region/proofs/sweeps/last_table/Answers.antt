use Rattle.std.proofs.Common.{◌≡◌, ◌+◌, ◌-◌, ◌<◌, ◌≤◌, subst, arith}
use Rattle.std.proofs.lemmas.Result.{IfOk-weaker}
use Rattle.mpc_region.specs.Sweeps.{rights, IsTableOf}
use Rattle.mpc_region.proofs.SweptTables.{table_is, row_within, column_within, rights_within, pivot_within, after_last}
use Rattle.mpc_region.proofs.sweeps.last_table.Goals as goal

pub sweep_into-requires-clause-table : goal.sweep_into-requires-clause-table
sweep_into-requires-clause-table c =
    table_is c.args.qp.now c.args.sweeps.now.set c.args.sweeps.now.count c.args.sweeps.now.tables.items c.requires.sweeps
    c.requires.set_of_rows (c.size-size.result - 1) (omega arith) (omega arith) c.member_place-pivot.result c.member_place-pivot.ensures c.index.result.now c.index.result.now c.index.ensures

pub sweep_into-requires-clause-row : goal.sweep_into-requires-clause-row
sweep_into-requires-clause-row c =
    row_within c.args.qp.now c.args.sweeps.now.set c.args.sweeps.now.count c.args.sweeps.now.tables.items c.requires.sweeps
    c.requires.set_of_rows (c.size-size.result - 1) (omega arith) (omega arith) c.member_place-pivot.result c.member_place-pivot.ensures c.index.result.now c.index.result.now c.index.ensures

pub sweep_into-requires-clause-column : goal.sweep_into-requires-clause-column
sweep_into-requires-clause-column c =
    column_within c.args.qp.now c.args.sweeps.now.set c.args.sweeps.now.count c.args.sweeps.now.tables.items c.requires.sweeps
    c.requires.set_of_rows (c.size-size.result - 1) (omega arith) (omega arith) c.member_place-pivot.result c.member_place-pivot.ensures c.index.result.now c.index.result.now c.index.ensures

pub sweep_into-requires-clause-first : goal.sweep_into-requires-clause-first
sweep_into-requires-clause-first c =
    let l : rights c.args.qp.now ≤ c.index.result.now.columns = rights_within c.args.qp.now c.args.sweeps.now.set c.args.sweeps.now.count c.args.sweeps.now.tables.items c.requires.sweeps
    c.requires.set_of_rows (c.size-size.result - 1) (omega arith) (omega arith) c.member_place-pivot.result c.member_place-pivot.ensures c.index.result.now c.index.result.now c.index.ensures in
    omega (arith, c.rows.ensures.value, c.rows-2.ensures.value)

pub returns-clause-table : goal.returns-clause-table
returns-clause-table c =
    let first : c.rows.result + c.rows-2.result ≡ rights c.args.qp.now = omega (arith, c.rows.ensures.value, c.rows-2.ensures.value) in
    let within : c.member_place-pivot.result < rights c.args.qp.now = pivot_within c.args.qp.now c.args.sweeps.now.set c.args.sweeps.now.count c.args.sweeps.now.tables.items c.requires.sweeps
    c.requires.set_of_rows (c.size-size.result - 1) (omega arith) (omega arith) c.member_place-pivot.result c.member_place-pivot.ensures c.index.result.now c.index.result.now c.index.ensures in
    IfOk-weaker c.sweep_into.result _ _
    (λ done h t. subst (λ first. IsTableOf c.args.qp.now c.args.sweeps.now.set first c.sweep_into.new.out) first (after_last c.args.qp.now c.args.sweeps.now.set c.args.sweeps.now.count c.args.sweeps.now.tables.items c.requires.sweeps
    c.requires.set_of_rows (c.size-size.result - 1) (omega arith) (omega arith) c.member_place-pivot.result c.member_place-pivot.ensures c.index.result.now c.index.result.now c.index.ensures
    (c.rows.result + c.rows-2.result) (omega arith) c.sweep_into.new.out (h t) (omega arith)))
    c.sweep_into.ensures
