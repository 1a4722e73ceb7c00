use Rattle.std.proofs.Common.{◌≡◌, length}
use Rattle.mpc_claim.specs.Hands.{HoldsOpen, emptied}
use Rattle.mpc_claim.proofs.worlds.World.into_registry.Given as goal

abbrev pub invariant-hands : goal.invariant-hands
invariant-hands l = record {
  held : HoldsOpen l.registry.program l.registry.history l.hands.items;
  same : emptied l.registry l.hands.items ≡ emptied l.fn.self.registry l.fn.self.hands;
}

abbrev pub decreases-hands : goal.decreases-hands
decreases-hands l = length l.hands.items
