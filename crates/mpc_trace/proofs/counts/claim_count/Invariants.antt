use Rattle.std.proofs.Common.{◌≡◌, ◌≤◌, length, take}
use Rattle.mpc_claim.specs.History.{claimed_sets}
use Rattle.mpc_trace.proofs.counts.claim_count.Given as goal

abbrev pub invariant-loop-event : goal.invariant-loop-event
invariant-loop-event l = record {
  counted : l.count ≡ length (claimed_sets (take l.event-index l.history));
  few : l.count ≤ l.event-index;
}
