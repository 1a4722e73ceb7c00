use Rattle.mpc_systems.proofs.RowWriting.{axis_at, listed_more}
use Rattle.mpc_systems.proofs.entries.axis.Goals as goal

pub loop-place-preserved : goal.loop-place-preserved
loop-place-preserved c = listed_more (axis_at c.args.coordinate c.args.value.now) c.loop-place.place c.loop-place.coefficients c.push.new.self c.axis_entry.result c.loop-place.invariant c.in_ok-push.ensures.ok c.axis_entry.ensures
