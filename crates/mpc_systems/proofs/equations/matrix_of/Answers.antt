use Rattle.std.proofs.Common.{arith}
use Rattle.mpc_systems.proofs.EntryWriting.{next_entry, next_row, all_rows}
use Rattle.mpc_systems.proofs.equations.matrix_of.Goals as goal

pub loop-column-preserved : goal.loop-column-preserved
loop-column-preserved g c = next_entry _ _ _ c.loop-column.out c.set.new.self c.loop-row.row c.loop-column.column c.entry.result c.set.ensures (omega arith) (omega arith) c.entry.ensures c.loop-column.invariant

pub loop-row-preserved : goal.loop-row-preserved
loop-row-preserved g c = next_row _ _ _ c.loop-column.out c.loop-row.row c.loop-column.column (omega arith) c.loop-column.invariant

pub returns : goal.returns
returns g c = λ f same. all_rows _ _ _ c.loop-row.out c.loop-row.row 0 f (omega arith) same c.loop-row.invariant
