use Rattle.std.proofs.Common.{length}
use Rattle.mpc_bordered.specs.Stages.{IsOpposite}
use Rattle.mpc_bordered.proofs.RowWriting.{FillingTable}
use Rattle.mpc_bordered.proofs.stages.first_stage.Given as goal

abbrev pub invariant-loop-row : goal.invariant-loop-row
invariant-loop-row l = FillingTable (IsOpposite l.columns) l.out (length l.columns.rows) l.columns.columns l.row
