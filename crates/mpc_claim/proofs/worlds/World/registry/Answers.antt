use Rattle.std.proofs.Common.{subst}
use Rattle.mpc_claim.specs.Hands.{IsReached}
use Rattle.mpc_claim.proofs.Held.{reached}
use Rattle.mpc_claim.proofs.worlds.World.registry.Goals as goal

pub returns-clause-reached : goal.returns-clause-reached
returns-clause-reached c = subst IsReached c.self.view_is (reached (record { registry = c.self.inside.registry; hands = c.self.inside.hands.items }) c.history-history.ensures.sound c.self.invariant)
