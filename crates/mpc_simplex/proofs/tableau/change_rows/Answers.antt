use Rattle.std.proofs.Common.{refl, sym, ◌∙◌}
use Rattle.mpc_runs.specs.Exchange.{row_at}
use Rattle.mpc_simplex.proofs.Cells.{rows_start, rows_skip, rows_zero, rows_more, rows_done, rows_fit_all}
use Rattle.mpc_simplex.proofs.tableau.change_rows.Goals as goal

pub loop-target-preserved-then-is_zero : goal.loop-target-preserved-then-is_zero
loop-target-preserved-then-is_zero c =
    rows_zero c.args.width c.args.entries.now c.loop-target.entries (row_at c.args.row.now) c.args.pivot_row c.args.pivot_column c.loop-target.target c.requires.column c.loop-target.invariant
    (sym c.cell-factor.ensures ∙ c.if-is_zero.ensures.value.0 refl)

pub loop-target-preserved : goal.loop-target-preserved
loop-target-preserved c =
    rows_more c.args.width c.args.entries.now c.loop-target.entries (row_at c.args.row.now) c.args.pivot_row c.args.pivot_column c.loop-target.target c.requires.column c.loop-target.invariant
    c.change_row.new.entries c.in-Ok.ensures.changed c.in-Ok.ensures.wide

pub loop-target-init : goal.loop-target-init
loop-target-init c = rows_start c.args.width c.args.entries.now (row_at c.args.row.now) c.args.pivot_row c.args.pivot_column

pub loop-target-preserved-then-target-pivot_row : goal.loop-target-preserved-then-target-pivot_row
loop-target-preserved-then-target-pivot_row c =
    rows_skip c.args.width c.args.entries.now c.loop-target.entries (row_at c.args.row.now) c.args.pivot_row c.args.pivot_column c.loop-target.target c.requires.column c.loop-target.invariant c.if-target-pivot_row.true

pub returns-clause-changed : goal.returns-clause-changed
returns-clause-changed c = rows_done c.args.width c.args.entries.now c.loop-target.entries (row_at c.args.row.now) c.args.pivot_row c.args.pivot_column c.loop-target.target c.args.height c.loop-target-test.false c.loop-target.invariant

pub returns-clause-wide : goal.returns-clause-wide
returns-clause-wide c = rows_fit_all c.args.width c.args.entries.now c.loop-target.entries (row_at c.args.row.now) c.args.pivot_row c.args.pivot_column c.loop-target.target c.args.height c.loop-target-test.false c.loop-target.invariant
