use Rattle.mpc_plant.proofs.Each.{sized_ok, sized_bad}
use Rattle.mpc_plant.proofs.entries.list_with_len.Goals as goal

pub returns-then-items-size-clause-bad : goal.returns-then-items-size-clause-bad
returns-then-items-size-clause-bad c = λ kind path e. let bad = sized_bad c.args.size c.in_ok-items.items.now _ c.in_ok-items.ensures.ok c.if-items-size.true in cc

pub returns-clause-ok : goal.returns-clause-ok
returns-clause-ok c = sized_ok c.args.size c.in_ok-items.items.now _ c.in_ok-items.ensures.ok c.if-items-size.false
