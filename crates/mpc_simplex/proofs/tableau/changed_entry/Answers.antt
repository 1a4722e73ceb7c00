use Rattle.mpc_simplex.proofs.Cells.{value_as, changed_at, changed_other}
use Rattle.mpc_simplex.proofs.tableau.changed_entry.Goals as goal

pub returns-then-column-pivot_column-clause-value : goal.returns-then-column-pivot_column-clause-value
returns-then-column-pivot_column-clause-value c = value_as c.mul.result _ _ (changed_at c.args.factor.now c.args.old.now c.args.own.now c.args.pivot_column c.args.column c.if-column-pivot_column.true) c.mul.ensures.value

pub returns-clause-value : goal.returns-clause-value
returns-clause-value c = value_as c.add_product.result _ _ (changed_other c.args.factor.now c.args.old.now c.args.own.now c.args.pivot_column c.args.column c.if-column-pivot_column.false) c.add_product.ensures.value
