use Rattle.std.proofs.Common.{sym, ◌∙◌}
use Rattle.mpc_space.proofs.Total.{unit-same, unit-other}
use Rattle.mpc_bordered.proofs.parts.unit.Goals as goal

pub returns-then-row-column : goal.returns-then-row-column
returns-then-row-column c = c.whole.ensures ∙ sym (unit-same c.args.row c.args.column c.if-row-column.true)

pub returns : goal.returns
returns c = c.whole-2.ensures ∙ sym (unit-other c.args.row c.args.column c.if-row-column.false)
