use Rattle.std.proofs.Common.{◌≡◌, ◌<◌, ◌+◌, ◌*◌, subst, sym, ap, ◌∙◌, arith}
use Rattle.mpc_plant_lines.specs.PlantNumbers.{filled}
use Rattle.mpc_plant_lines.proofs.PlantLineLemmas.{filled_none, filled_height, filled_columns, filled_all}
use Rattle.mpc_plant_lines.proofs.plant_lines.matrix_with.Goals as goal

pub loop-row-init : goal.loop-row-init
loop-row-init c =
    let none : 0 ≡ 0 * c.args.columns = omega arith in
    c.in_ok-matrix.ensures ∙ filled_none c.grid_theorems.ensures c.args.rows c.args.columns c.args.entries.now ∙ ap (λ k. filled c.args.rows c.args.columns k c.args.entries.now) none

pub write_row-requires-clause-row : goal.write_row-requires-clause-row
write_row-requires-clause-row c = subst (λ n. c.loop-row.row < n) (sym (filled_height c.grid_theorems.ensures c.loop-row.matrix c.args.rows c.args.columns _ c.args.entries.now c.loop-row.invariant)) c.loop-row-test.true

pub write_row-requires-clause-size : goal.write_row-requires-clause-size
write_row-requires-clause-size c =
    let h = filled_height c.grid_theorems.ensures c.loop-row.matrix c.args.rows c.args.columns _ c.args.entries.now c.loop-row.invariant in
    let w = filled_columns c.grid_theorems.ensures c.loop-row.matrix c.args.rows c.args.columns _ c.args.entries.now c.loop-row.invariant in
    c.requires ∙ (λ t. sym h t * sym w t)

pub write_row-requires-clause-before : goal.write_row-requires-clause-before
write_row-requires-clause-before c =
    let h = filled_height c.grid_theorems.ensures c.loop-row.matrix c.args.rows c.args.columns _ c.args.entries.now c.loop-row.invariant in
    let w = filled_columns c.grid_theorems.ensures c.loop-row.matrix c.args.rows c.args.columns _ c.args.entries.now c.loop-row.invariant in
    c.loop-row.invariant ∙ (λ t. filled (sym h t) (sym w t) (c.loop-row.row * sym w t) c.args.entries.now)

pub loop-row-preserved : goal.loop-row-preserved
loop-row-preserved c =
    let h = filled_height c.grid_theorems.ensures c.loop-row.matrix c.args.rows c.args.columns _ c.args.entries.now c.loop-row.invariant in
    let w = filled_columns c.grid_theorems.ensures c.loop-row.matrix c.args.rows c.args.columns _ c.args.entries.now c.loop-row.invariant in
    c.write_row.ensures ∙ (λ t. filled (h t) (w t) ((c.loop-row.row + 1) * w t) c.args.entries.now)

pub returns : goal.returns
returns c =
    let all : c.loop-row.row * c.args.columns ≡ c.args.rows * c.args.columns = ap (λ k. k * c.args.columns) (omega arith) in
    c.loop-row.invariant ∙ filled_all c.args.rows c.args.columns (c.loop-row.row * c.args.columns) c.args.entries.now c.requires all
