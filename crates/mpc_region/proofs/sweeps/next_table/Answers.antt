use Rattle.std.proofs.Common.{◌+◌, ◌-◌, ◌<◌, set, sym, subst, arith}
use Rattle.mpc_space.specs.Matrix.{height}
use Rattle.mpc_sets.specs.RowSet.{IsSetOfRows}
use Rattle.mpc_region.specs.Sweeps.{rights}
use Rattle.mpc_region.specs.SweptSets.{AreTables}
use Rattle.mpc_region.proofs.SweptTables.{table_is, row_within, column_within, pivot_within, tables_next}
use Rattle.mpc_region.proofs.sweeps.next_table.Goals as goal

pub overflow_add-pivot : goal.overflow_add-pivot
overflow_add-pivot c =
    let l : c.member_place-pivot.result < rights c.args.qp.now = pivot_within c.args.qp.now c.make_room.new.sweeps.set c.make_room.new.sweeps.count c.make_room.new.sweeps.tables.items c.make_room.ensures.sweeps
    (subst (IsSetOfRows (height c.args.qp.now.g)) (sym c.make_room.ensures.set) c.requires.set_of_rows) (c.make_room.new.sweeps.count - 1) (omega arith) (omega arith) c.member_place-pivot.result c.member_place-pivot.ensures c.index.result.now c.index.result.now c.index.ensures in
    let a = c.args.qp.now.is_program.few_unknowns in
    let b = c.args.qp.now.is_program.few_rows in
    omega arith

pub sweep_into-requires-clause-table : goal.sweep_into-requires-clause-table
sweep_into-requires-clause-table c =
    table_is c.args.qp.now c.make_room.new.sweeps.set c.make_room.new.sweeps.count c.make_room.new.sweeps.tables.items c.make_room.ensures.sweeps
    (subst (IsSetOfRows (height c.args.qp.now.g)) (sym c.make_room.ensures.set) c.requires.set_of_rows) (c.make_room.new.sweeps.count - 1) (omega arith) (omega arith) c.member_place-pivot.result c.member_place-pivot.ensures c.index.result.now c.index.result.now c.index.ensures

pub sweep_into-requires-clause-row : goal.sweep_into-requires-clause-row
sweep_into-requires-clause-row c =
    row_within c.args.qp.now c.make_room.new.sweeps.set c.make_room.new.sweeps.count c.make_room.new.sweeps.tables.items c.make_room.ensures.sweeps
    (subst (IsSetOfRows (height c.args.qp.now.g)) (sym c.make_room.ensures.set) c.requires.set_of_rows) (c.make_room.new.sweeps.count - 1) (omega arith) (omega arith) c.member_place-pivot.result c.member_place-pivot.ensures c.index.result.now c.index.result.now c.index.ensures

pub sweep_into-requires-clause-column : goal.sweep_into-requires-clause-column
sweep_into-requires-clause-column c =
    column_within c.args.qp.now c.make_room.new.sweeps.set c.make_room.new.sweeps.count c.make_room.new.sweeps.tables.items c.make_room.ensures.sweeps
    (subst (IsSetOfRows (height c.args.qp.now.g)) (sym c.make_room.ensures.set) c.requires.set_of_rows) (c.make_room.new.sweeps.count - 1) (omega arith) (omega arith) c.member_place-pivot.result c.member_place-pivot.ensures c.index.result.now c.index.result.now c.index.ensures

pub sweep_into-requires-clause-first : goal.sweep_into-requires-clause-first
sweep_into-requires-clause-first c =
    let l : c.member_place-pivot.result < c.index.result.now.columns = column_within c.args.qp.now c.make_room.new.sweeps.set c.make_room.new.sweeps.count c.make_room.new.sweeps.tables.items c.make_room.ensures.sweeps
    (subst (IsSetOfRows (height c.args.qp.now.g)) (sym c.make_room.ensures.set) c.requires.set_of_rows) (c.make_room.new.sweeps.count - 1) (omega arith) (omega arith) c.member_place-pivot.result c.member_place-pivot.ensures c.index.result.now c.index.result.now c.index.ensures in
    omega arith

pub returns-in_err-make_room-clause-sweeps : goal.returns-in_err-make_room-clause-sweeps
returns-in_err-make_room-clause-sweeps c = c.make_room.ensures.sweeps

pub returns-in_err-sweep_into-clause-sweeps : goal.returns-in_err-sweep_into-clause-sweeps
returns-in_err-sweep_into-clause-sweeps c = c.make_room.ensures.sweeps

pub returns-then-not-branch-clause-sweeps : goal.returns-then-not-branch-clause-sweeps
returns-then-not-branch-clause-sweeps c = c.make_room.ensures.sweeps

pub returns-clause-sweeps : goal.returns-clause-sweeps
returns-clause-sweeps c =
    subst (λ t. AreTables c.args.qp.now c.make_room.new.sweeps.set (c.make_room.new.sweeps.count + 1) (set c.make_room.new.sweeps.tables.items c.make_room.new.sweeps.count t)) (sym c.swap.ensures.y_after)
    (tables_next c.args.qp.now c.make_room.new.sweeps.set c.make_room.new.sweeps.count c.make_room.new.sweeps.tables.items c.make_room.ensures.sweeps
    (subst (IsSetOfRows (height c.args.qp.now.g)) (sym c.make_room.ensures.set) c.requires.set_of_rows) (c.make_room.new.sweeps.count - 1) (omega arith) (omega arith) c.member_place-pivot.result c.member_place-pivot.ensures c.index.result.now c.index.result.now c.index.ensures
    c.sweep_into.new.out c.in_ok-make_room.ensures.room (omega arith) (c.in_ok-sweep_into.ensures c.if-not-branch.false))
