use Rattle.std.proofs.Common.{◌≡◌, take}
use Rattle.mpc_trace.specs.Histories.{history_text}
use Rattle.mpc_trace.proofs.histories.history_lines.Given as goal

abbrev pub invariant-loop-event : goal.invariant-loop-event
invariant-loop-event l = l.text.items ≡ history_text (take l.event-index l.events)
