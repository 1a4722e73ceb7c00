use Rattle.mpc_exact.specs.Pair.{is_below}
use Rattle.mpc_runs.proofs.Read.{or_then, or_and, or_else}
use Rattle.mpc_simplex.proofs.numbers.is_below.Goals as goal

pub returns-then-is_less : goal.returns-then-is_less
unfolding is_below
returns-then-is_less c = or_then _ _ c.is_less.result c.is_less.ensures c.if-is_less.true

pub returns-then-is_at_most : goal.returns-then-is_at_most
unfolding is_below
returns-then-is_at_most c = or_and _ _ _ c.is_at_most.result c.is_less.result c.is_less-then-is_at_most.result c.is_less.ensures c.if-is_less.false c.is_at_most.ensures c.if-is_at_most.true c.is_less-then-is_at_most.ensures

pub returns-else-is_at_most : goal.returns-else-is_at_most
unfolding is_below
returns-else-is_at_most c = or_else _ _ _ c.is_at_most.result c.is_less.result c.is_less.ensures c.if-is_less.false c.is_at_most.ensures c.if-is_at_most.false
