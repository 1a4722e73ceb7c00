use Rattle.std.proofs.Common.{◌<◌, ◌≤◌, length, sym, subst, arith}
use Rattle.mpc_space.specs.Matrix.{height}
use Rattle.mpc_sets.specs.RowSet.{IsSetOfRows}
use Rattle.mpc_region.specs.Sweeps.{rights, IsTableOf}
use Rattle.mpc_region.proofs.SweptTables.{shows_none}
use Rattle.mpc_region.proofs.verdicts.by_whole_table.Goals as goal

pub by_table-requires-clause-table : goal.by_table-requires-clause-table
by_table-requires-clause-table c =
    subst (IsTableOf c.args.qp.now c.args.set (rights c.args.qp.now)) (sym c.index.ensures)
    (shows_none c.args.qp.now c.args.sweeps.now.set c.args.sweeps.now.count c.args.sweeps.now.tables.items c.requires.tables.sweeps c.args.set c.requires.tables.some (omega arith) c.index.result.now)

pub last_table-requires-clause-set_of_rows : goal.last_table-requires-clause-set_of_rows
last_table-requires-clause-set_of_rows c = subst (IsSetOfRows (height c.args.qp.now.g)) (sym c.requires.tables.set) c.requires.asked.set_of_rows

pub last_table-requires-clause-some : goal.last_table-requires-clause-some
last_table-requires-clause-some c = subst (λ s. 0 < length s) (sym c.requires.tables.set) (omega arith)

pub last_table-requires-clause-served : goal.last_table-requires-clause-served
last_table-requires-clause-served c = subst (λ s. length s ≤ c.args.sweeps.now.count) (sym c.requires.tables.set) c.requires.tables.served

pub by_table-requires-then-branch-clause-table : goal.by_table-requires-then-branch-clause-table
by_table-requires-then-branch-clause-table c = subst (λ s. IsTableOf c.args.qp.now s (rights c.args.qp.now) c.last_table.new.sweeps.last) c.requires.tables.set (c.in_ok-last_table.ensures.table c.if-branch.true)
