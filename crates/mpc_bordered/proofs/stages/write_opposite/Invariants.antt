use Rattle.mpc_bordered.specs.Stages.{IsOpposite}
use Rattle.mpc_bordered.proofs.RowWriting.{FillingRow}
use Rattle.mpc_bordered.proofs.stages.write_opposite.Given as goal

abbrev pub invariant-loop-column : goal.invariant-loop-column
invariant-loop-column l = FillingRow (IsOpposite l.columns l.row) l.fn.out l.out l.row l.column
