use Rattle.std.proofs.Common.{◌≡◌, ◌≢◌, ◌-◌, pos, sym, ◌∙◌, arith, rules}
use Rattle.mpc_sweep.specs.Numbers.{number}
use Rattle.mpc_region.proofs.SweptTables.{before, table_is, row_within, column_within, last_fits}
use Rattle.mpc_region.proofs.SweptLaws.{law_shown, dependent_shown}
use Rattle.mpc_region.proofs.sweeps.last_end.Goals as goal

pub at-requires-clause-table : goal.at-requires-clause-table
at-requires-clause-table c =
    table_is c.args.qp.now c.args.sweeps.now.set c.args.sweeps.now.count c.args.sweeps.now.tables.items c.requires.sweeps
    c.requires.set_of_rows (c.size-size.result - 1) (omega arith) (omega arith) c.member_place-pivot.result c.member_place-pivot.ensures c.index-before.result.now c.index-before.result.now c.index-before.ensures

pub at-requires-clause-row : goal.at-requires-clause-row
at-requires-clause-row c =
    row_within c.args.qp.now c.args.sweeps.now.set c.args.sweeps.now.count c.args.sweeps.now.tables.items c.requires.sweeps
    c.requires.set_of_rows (c.size-size.result - 1) (omega arith) (omega arith) c.member_place-pivot.result c.member_place-pivot.ensures c.index-before.result.now c.index-before.result.now c.index-before.ensures

pub at-requires-clause-column : goal.at-requires-clause-column
at-requires-clause-column c =
    column_within c.args.qp.now c.args.sweeps.now.set c.args.sweeps.now.count c.args.sweeps.now.tables.items c.requires.sweeps
    c.requires.set_of_rows (c.size-size.result - 1) (omega arith) (omega arith) c.member_place-pivot.result c.member_place-pivot.ensures c.index-before.result.now c.index-before.result.now c.index-before.ensures

pub returns-then-at-eq0 : goal.returns-then-at-eq0
returns-then-at-eq0 c =
    let zero : c.at.result ≡ pos 0 = search rules in
    dependent_shown c.args.qp.now c.args.sweeps.now.set c.requires.set_of_rows c.sweep_theorems.ensures.dependent (c.size-size.result - 1) (omega arith) c.member_place-pivot.result c.member_place-pivot.ensures c.index-before.result.now
    (before c.args.qp.now c.args.sweeps.now.set c.args.sweeps.now.count c.args.sweeps.now.tables.items c.requires.sweeps
    c.requires.set_of_rows (c.size-size.result - 1) (omega arith) (omega arith) c.member_place-pivot.result c.member_place-pivot.ensures c.index-before.result.now c.index-before.result.now c.index-before.ensures)
    c.requires.definite (sym c.at.ensures ∙ zero)

pub returns : goal.returns
returns c =
    let some : number c.index-before.result.now c.member_place-pivot.result c.member_place-pivot.result ≢ pos 0 = search rules in
    let all = last_fits c.args.qp.now c.args.sweeps.now.set c.args.sweeps.now.count c.args.sweeps.now.tables.items c.requires.sweeps
    c.requires.set_of_rows (c.size-size.result - 1) (omega arith) (omega arith) c.member_place-pivot.result c.member_place-pivot.ensures c.index-before.result.now c.index-before.result.now c.index-before.ensures
    c.sweep_theorems.ensures.next (omega arith) some in
    law_shown c.args.qp.now c.args.sweeps.now.set c.requires.set_of_rows c.sweep_theorems.ensures.solved all.0 all.1 c.requires.few
