use Rattle.std.proofs.Common.{◌≡◌, ◌∙◌, ◌-◌, ◌+◌, ◌<◌, ◌*ℤ◌, neg_ℤ, pos, sym, ap, subst, arith, rules, get_or, length, set, FitsSigned}
use Rattle.std.specs.Int.{w128}
use Rattle.std.proofs.lemmas.Int.{to_z-of_z}
use Rattle.std.proofs.lemmas.List.{length-replicate}
use Rattle.mpc_exact.specs.Rational.{int, frac}
use Rattle.mpc_rows.specs.LinearSystem.{height}
use Rattle.mpc_runs.specs.Table.{variable_at}
use Rattle.mpc_scaled.specs.Scaled.{scale_at}
use Rattle.mpc_whole.specs.Running.{HasColumnMultipliers}
use Rattle.mpc_whole.proofs.ColumnMultipliers.{column_skipped, column_written}
use Rattle.mpc_whole.proofs.whole_ends.column_multipliers.Goals as goal

pub loop-column-preserved-then-variable-width : goal.loop-column-preserved-then-variable-width
loop-column-preserved-then-variable-width c =
    column_skipped c.args.system.now.width c.args.scales.now c.args.nonbasic.now c.args.row.now c.args.den c.loop-column.column c.loop-column.list c.loop-column.invariant (omega arith)

pub loop-column-preserved : goal.loop-column-preserved
loop-column-preserved c =
    let w = c.args.system.now.width in
    let y = variable_at c.args.nonbasic.now c.loop-column.column in
    let f : FitsSigned w128 (get_or c.args.row.now c.loop-column.column (pos 0)) = search rules in
    let is = c.in_ok-value.ensures ∙ ap (λ z. frac (neg_ℤ (z *ℤ pos (scale_at c.args.scales.now y))) c.args.den) (to_z-of_z w128 _ f) in
    let below = c.requires.below c.loop-column.column (omega arith) in
    let size : length c.loop-column.list ≡ height c.args.system.now = (let l : length c.loop-column.list ≡ length c.args.list.now = c.loop-column.auto.list in l) ∙ ap length c.requires.zeros ∙ length-replicate (height c.args.system.now) (int (pos 0)) in
    subst (λ u. HasColumnMultipliers w c.args.scales.now c.args.nonbasic.now c.args.row.now c.args.den (c.loop-column.column + 1) (set c.loop-column.list (y - u) c.in_ok-value.value)) (sym c.unknowns-width.ensures)
    (column_written w c.args.scales.now c.args.nonbasic.now c.args.row.now c.args.den c.loop-column.column c.loop-column.list c.loop-column.invariant c.in_ok-value.value (omega arith) (omega arith) (omega arith) is)

pub bounds-list-variable : goal.bounds-list-variable
bounds-list-variable c =
    let b = c.requires.below c.loop-column.column (subst (λ w. c.loop-column.column < w) c.unknowns-width.ensures c.loop-column-test.true) in
    let l : length c.loop-column.list ≡ length c.args.list.now = c.loop-column.auto.list in
    let size = l ∙ ap length c.requires.zeros ∙ length-replicate (height c.args.system.now) (int (pos 0)) in
    let e = c.unknowns-width.ensures in
    omega arith

pub offset_bounds-list-variable : goal.offset_bounds-list-variable
offset_bounds-list-variable c =
    let b = c.requires.below c.loop-column.column (subst (λ w. c.loop-column.column < w) c.unknowns-width.ensures c.loop-column-test.true) in
    let l : length c.loop-column.list ≡ length c.args.list.now = c.loop-column.auto.list in
    let size = l ∙ ap length c.requires.zeros ∙ length-replicate (height c.args.system.now) (int (pos 0)) in
    let e = c.unknowns-width.ensures in
    omega arith
