use Rattle.std.proofs.Common.{length, arith}
use Rattle.mpc_linear.specs.Entries.{zero_matrix}
use Rattle.mpc_law_lines.proofs.FormLemmas.{zeros_size, row_there, rows_next, rows_done}
use Rattle.mpc_law_lines.proofs.forms.matrix_of.Goals as goal

pub fill_row-requires-clause-row : goal.fill_row-requires-clause-row
fill_row-requires-clause-row c = row_there c.args.forms.now c.args.columns c.loop-place.place c.loop-place.matrix (omega (arith, c.loop-place-test.true, c.len-place-end.ensures)) c.loop-place.invariant

pub loop-place-preserved : goal.loop-place-preserved
loop-place-preserved c =
    rows_next c.args.forms.now (zero_matrix (length c.args.forms.now) c.args.columns).rows c.args.columns c.loop-place.place c.at.result.now c.loop-place.matrix c.fill_row.new.matrix (zeros_size (length c.args.forms.now) c.args.columns) (omega (arith, c.loop-place-test.true, c.len-place-end.ensures)) c.loop-place.invariant c.at.ensures c.fill_row.ensures

pub returns : goal.returns
returns c = rows_done c.args.forms.now (zero_matrix (length c.args.forms.now) c.args.columns).rows c.args.columns c.loop-place.place c.loop-place.matrix (zeros_size (length c.args.forms.now) c.args.columns) (omega (arith, c.loop-place-test.false, c.len-place-end.ensures)) c.loop-place.invariant
