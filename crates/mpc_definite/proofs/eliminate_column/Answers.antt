use Rattle.std.proofs.Common.{◌≡◌, ◌+◌, ◌-◌, arith, subst}
use Rattle.mpc_space.specs.Matrix.{height, entry}
use Rattle.mpc_definite.proofs.Work.{ColumnSome, RowsFit, column_step, rows_step}
use Rattle.mpc_definite.proofs.eliminate_column.Goals as goal

pub loop-row-preserved : goal.loop-row-preserved
loop-row-preserved c =
    let old = c.args.lower.now in
    let i = c.loop-row.row - 1 in
    let next : c.loop-row.row ≡ i + 1 = omega arith in
    let w = subst (ColumnSome old c.loop-row.lower c.args.column) next c.loop-row.invariant.rows in
    let f = subst (RowsFit (entry old) (height old) c.args.column) next c.loop-row.invariant.fits in
    record {
      low = omega arith;
      rows = column_step old c.loop-row.lower c.eliminate_row.new.lower c.args.column i (omega arith) (omega arith) w c.in_ok-eliminate_row.ensures.ok;
      fits = rows_step old c.loop-row.lower c.args.column i (omega arith) (omega arith) w c.in_ok-eliminate_row.ensures.wide f;
    }
