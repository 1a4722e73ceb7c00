use Rattle.std.proofs.Common.{[], sym, ◌∙◌, ap, arith}
use Rattle.mpc_plant.proofs.MatrixRows.{row_step}
use Rattle.mpc_plant.proofs.matrices.write_row.Goals as goal

pub loop-column-preserved : goal.loop-column-preserved
loop-column-preserved c = record {
  rows = row_step c.args.matrix.now.rows c.args.at_row c.loop-column.column c.args.row.now c.loop-column.matrix c.set.new.self _ c.requires.row_in (omega arith) (c.requires.width ∙ sym (c.requires.rectangular c.args.at_row [] c.requires.row_in)) c.loop-column.invariant.rows c.at.ensures c.set.ensures;
  columns = ap (λ m. m.columns) c.set.ensures ∙ c.loop-column.invariant.columns;
}
