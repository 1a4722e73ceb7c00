use Rattle.std.proofs.Common.{sym, ◌∙◌}
use Rattle.mpc_plant_lines.proofs.PlantTexts.{no_matrix, matrix_is, wrong_size, some_fractions, no_fractions}
use Rattle.mpc_plant_lines.proofs.plant_lines.matrix_in.Goals as goal

pub returns-in_default : goal.returns-in_default
returns-in_default c =
    no_matrix c.args.name.now c.args.text.now c.args.rows c.args.columns (no_fractions c.args.name.now c.args.text.now c.in_ok-entries.field-0 c.in_default.not-Some c.in_ok-entries.ensures)

pub returns-then-len-rows : goal.returns-then-len-rows
returns-then-len-rows c =
    wrong_size c.args.name.now c.args.text.now c.args.rows c.args.columns c.one_fractions.ensures c.in-Some.entries (some_fractions c.args.name.now c.args.text.now c.in_ok-entries.field-0 c.in-Some.entries c.in-Some.is c.in_ok-entries.ensures)
    (λ e. c.if-len-rows.true (c.len.ensures ∙ e))

pub returns : goal.returns
returns c =
    matrix_is c.args.name.now c.args.text.now c.args.rows c.args.columns c.grid_theorems.ensures c.in-Some.entries c.in_ok-matrix.matrix (some_fractions c.args.name.now c.args.text.now c.in_ok-entries.field-0 c.in-Some.entries c.in-Some.is c.in_ok-entries.ensures)
    (sym c.len.ensures ∙ c.if-len-rows.false) c.in_ok-matrix.ensures
