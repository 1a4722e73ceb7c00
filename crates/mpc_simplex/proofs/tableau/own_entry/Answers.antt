use Rattle.std.proofs.Common.{◌∙◌, ap}
use Rattle.mpc_exact.specs.Rational.{◌*ℚ◌, neg_ℚ}
use Rattle.mpc_simplex.proofs.Cells.{own_at, own_other}
use Rattle.mpc_simplex.proofs.tableau.own_entry.Goals as goal

pub returns-then-column-pivot_column-clause-value : goal.returns-then-column-pivot_column-clause-value
returns-then-column-pivot_column-clause-value c = c.requires.inverse ∙ own_at c.args.width c.args.entries.now c.args.pivot_row c.args.pivot_column c.args.column c.if-column-pivot_column.true

pub returns-in-Ok-clause-value : goal.returns-in-Ok-clause-value
returns-in-Ok-clause-value c =
    c.in-Ok.ensures.value ∙ (λ i. (c.neg-negative.ensures ∙ ap neg_ℚ c.cell.ensures) i *ℚ c.requires.inverse i)
    ∙ own_other c.args.width c.args.entries.now c.args.pivot_row c.args.pivot_column c.args.column c.if-column-pivot_column.false
