use Rattle.std.proofs.Common.{◌∙◌, pos, arith}
use Rattle.mpc_exact.specs.Rational.{int}
use Rattle.mpc_space.specs.Vector.{column, dot}
use Rattle.mpc_tight.proofs.Products.{zero_plus, stand_in_column}
use Rattle.mpc_tight.proofs.vectors.dot_with_column.Goals as goal

pub returns-in-Err-clause-wide : goal.returns-in-Err-clause-wide
returns-in-Err-clause-wide c =
    c.sum_theorems.ensures.wide (int (pos 0)) c.args.row.now (column c.args.matrix.now.rows c.args.at_column) c.loop-at_row.at_row c.loop-at_row.sum c.at-factor.result.now c.get-entry.result
    (stand_in_column c.args.row.now c.args.matrix.now c.args.at_column c.loop-at_row.at_row c.at-factor.result.now c.get-entry.result c.requires.size (omega (arith, c.rows-at_row-end.ensures.value)) c.at-factor.ensures c.get-entry.ensures)
    c.loop-at_row.invariant c.in-Err.ensures.wide

pub loop-at_row-preserved : goal.loop-at_row-preserved
loop-at_row-preserved c =
    c.sum_theorems.ensures.more (int (pos 0)) c.args.row.now (column c.args.matrix.now.rows c.args.at_column) c.loop-at_row.at_row c.loop-at_row.sum c.at-factor.result.now c.get-entry.result c.in-Ok.next
    (stand_in_column c.args.row.now c.args.matrix.now c.args.at_column c.loop-at_row.at_row c.at-factor.result.now c.get-entry.result c.requires.size (omega (arith, c.rows-at_row-end.ensures.value)) c.at-factor.ensures c.get-entry.ensures)
    c.loop-at_row.invariant c.in-Ok.ensures.value c.in-Ok.ensures.wide

pub returns-clause-value : goal.returns-clause-value
returns-clause-value c =
    c.sum_theorems.ensures.value (int (pos 0)) c.args.row.now (column c.args.matrix.now.rows c.args.at_column) c.loop-at_row.at_row c.loop-at_row.sum (omega (arith, c.rows-at_row-end.ensures.value, c.requires.size)) c.loop-at_row.invariant
    ∙ zero_plus (dot c.args.row.now (column c.args.matrix.now.rows c.args.at_column))
