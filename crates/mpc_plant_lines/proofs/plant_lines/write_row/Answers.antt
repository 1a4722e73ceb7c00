use Rattle.std.proofs.Common.{◌<◌, ◌+◌, ◌*◌, length, get_or, pos, subst, sym, ap, ◌∙◌, arith}
use Rattle.mpc_exact.specs.Rational.{int}
use Rattle.mpc_space.specs.Matrix.{height}
use Rattle.mpc_plant_lines.proofs.PlantLineLemmas.{filled_height, filled_columns, filled_next}
use Rattle.mpc_plant_lines.proofs.plant_lines.write_row.Goals as goal

pub at-requires : goal.at-requires
at-requires c =
    let j : c.loop-column.column < c.args.matrix.now.columns = omega arith in
    let below : c.args.row * c.args.matrix.now.columns + c.loop-column.column < height c.args.matrix.now * c.args.matrix.now.columns = c.grid_theorems.ensures.place (height c.args.matrix.now) c.args.matrix.now.columns c.args.row c.loop-column.column c.requires.row j in
    let within : c.args.row * c.args.matrix.now.columns + c.loop-column.column < length c.args.entries.now = subst (λ n. c.args.row * c.args.matrix.now.columns + c.loop-column.column < n) (sym c.requires.size) below in
    subst (λ w. c.args.row * w + c.loop-column.column < length c.args.entries.now) (sym c.cols-columns.ensures.value) within

pub set-requires-clause-row : goal.set-requires-clause-row
set-requires-clause-row c = subst (λ n. c.args.row < n) (sym (filled_height c.grid_theorems.ensures c.loop-column.matrix (height c.args.matrix.now) c.args.matrix.now.columns _ c.args.entries.now c.loop-column.invariant)) c.requires.row

pub set-requires-clause-column : goal.set-requires-clause-column
set-requires-clause-column c =
    let j : c.loop-column.column < c.args.matrix.now.columns = omega arith in
    subst (λ n. c.loop-column.column < n) (sym (filled_columns c.grid_theorems.ensures c.loop-column.matrix (height c.args.matrix.now) c.args.matrix.now.columns _ c.args.entries.now c.loop-column.invariant)) j

pub loop-column-preserved : goal.loop-column-preserved
loop-column-preserved c =
    let j : c.loop-column.column < c.args.matrix.now.columns = omega arith in
    filled_next c.grid_theorems.ensures c.loop-column.matrix c.set.new.self (height c.args.matrix.now) c.args.matrix.now.columns c.args.row c.loop-column.column c.args.entries.now _ c.requires.row j c.requires.size c.loop-column.invariant
    (c.at.ensures ∙ ap (λ w. get_or c.args.entries.now (c.args.row * w + c.loop-column.column) (int (pos 0))) c.cols-columns.ensures.value) c.set.ensures
