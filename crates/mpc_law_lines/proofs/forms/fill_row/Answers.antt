use Rattle.std.proofs.Common.{arith, sym, ◌∙◌, [], ◌≡◌, get_or, length}
use Rattle.mpc_law_lines.proofs.FormLemmas.{row_start, row_next, row_done}
use Rattle.mpc_law_lines.proofs.forms.fill_row.Goals as goal

pub loop-column-preserved : goal.loop-column-preserved
loop-column-preserved c =
    let size : length (get_or c.args.matrix.now.rows c.args.row []) ≡ length c.args.form.now = c.cols-column-end.ensures.rectangular c.args.row [] c.requires.row ∙ sym c.requires.size in
    row_next c.args.matrix.now c.args.row c.args.form.now c.requires.row size c.loop-column.matrix c.set.new.self c.loop-column.column c.at.result.now (omega (arith, c.loop-column-test.true, c.cols-column-end.ensures.value, c.requires.size)) c.loop-column.invariant c.at.ensures c.set.ensures

pub loop-column-init : goal.loop-column-init
loop-column-init c = row_start c.args.matrix.now c.args.row c.args.form.now c.requires.row (c.cols-column-end.ensures.rectangular c.args.row [] c.requires.row ∙ sym c.requires.size)

pub returns : goal.returns
returns c = row_done c.args.matrix.now c.args.row c.args.form.now c.requires.row (c.cols-column-end.ensures.rectangular c.args.row [] c.requires.row ∙ sym c.requires.size) c.loop-column.matrix c.loop-column.column (omega (arith, c.loop-column-test.false, c.cols-column-end.ensures.value, c.requires.size)) c.loop-column.invariant
