use Rattle.mpc_space.specs.Matrix.{entry}
use Rattle.mpc_bordered.specs.Stages.{IsNextNumber}
use Rattle.mpc_bordered.proofs.RowWriting.{FillingRow}
use Rattle.mpc_bordered.proofs.stages.write_next.Given as goal

abbrev pub invariant-loop-column : goal.invariant-loop-column
invariant-loop-column l = FillingRow (IsNextNumber (entry l.kept.table) l.kept.front l.stage l.pivot_column l.row) l.fn.out l.out l.row l.column
