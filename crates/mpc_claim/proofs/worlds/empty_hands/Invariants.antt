use Rattle.std.proofs.Common.{◌≡◌, ◌≤◌, None, vec_capacity}
use Rattle.std.specs.Prelude.{replicate}
use Rattle.mpc_claim.proofs.worlds.empty_hands.Given as goal

abbrev pub invariant-loop : goal.invariant-loop
invariant-loop l = record {
  items : l.hands.items ≡ replicate l.counter None;
  room : l.workers ≤ vec_capacity l.hands;
}
