use Rattle.std.proofs.Common.{◌∙◌}
use Rattle.mpc_recur.proofs.FormLemmas.{low_coefficient, step_coefficient, no_coefficient}
use Rattle.mpc_recur.proofs.forms.state_coefficient.Goals as goal

pub returns-then-term-eq0 : goal.returns-then-term-eq0
returns-then-term-eq0 c = low_coefficient c.args.plant.now c.args.index c.at-axis.result.now c.requires.coordinate c.at-axis.ensures c.args.term c.if-term-eq0.true

pub returns-then-term-index : goal.returns-then-term-index
returns-then-term-index c = step_coefficient c.args.plant.now c.args.index c.at-axis.result.now c.requires.coordinate c.at-axis.ensures c.args.term c.if-term-index.true

pub returns-else-term-index : goal.returns-else-term-index
returns-else-term-index c =
    c.whole.ensures ∙ no_coefficient c.args.plant.now c.args.index c.at-axis.result.now c.requires.coordinate c.at-axis.ensures c.args.term c.requires.column c.if-term-eq0.false c.if-term-index.false
