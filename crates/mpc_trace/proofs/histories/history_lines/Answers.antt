use Rattle.mpc_trace.proofs.TraceLemmas.{history_more}
use Rattle.mpc_trace.proofs.histories.history_lines.Goals as goal

pub loop-event-preserved : goal.loop-event-preserved
loop-event-preserved c = history_more c.args.events.now c.loop-event.event-index c.event-item.result c.loop-event.text.items c.add_event.new.text.items c.loop-event-test.true c.event-item.is c.loop-event.invariant c.in_ok-add_event.ensures.text
