use Rattle.std.proofs.Common.{inl, inr}
use Rattle.mpc_plant.proofs.Each.{between_ok, between_bad}
use Rattle.mpc_plant.proofs.entries.list_between.Goals as goal

pub returns-then-items-low-clause-bad : goal.returns-then-items-low-clause-bad
returns-then-items-low-clause-bad c = λ kind path e. let bad = between_bad c.args.low c.args.high c.in_ok-items.items.now _ c.in_ok-items.ensures.ok (inl c.if-items-low.true) in cc

pub returns-then-items-high-clause-bad : goal.returns-then-items-high-clause-bad
returns-then-items-high-clause-bad c = λ kind path e. let bad = between_bad c.args.low c.args.high c.in_ok-items.items.now _ c.in_ok-items.ensures.ok (inr c.if-items-high.true) in cc

pub returns-clause-ok : goal.returns-clause-ok
returns-clause-ok c = between_ok c.args.low c.args.high c.in_ok-items.items.now _ c.in_ok-items.ensures.ok c.if-items-low.false c.if-items-high.false
