use Rattle.mpc_space.specs.Matrix.{entry}
use Rattle.mpc_bordered.specs.Stages.{IsNextNumber}
use Rattle.mpc_bordered.proofs.RowWriting.{FillingTable}
use Rattle.mpc_bordered.proofs.stages.next_stage.Given as goal

abbrev pub invariant-loop-row : goal.invariant-loop-row
invariant-loop-row l = FillingTable (λ i j. IsNextNumber (entry l.kept.table) l.kept.front l.stage l.pivot_column i j) l.out l.kept.front l.stage.columns l.row
