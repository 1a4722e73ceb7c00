use Rattle.std.proofs.Common.{subst}
use Rattle.mpc_claim.specs.Books.{IsSound}
use Rattle.mpc_claim.proofs.Sound.{sound}
use Rattle.mpc_claim.proofs.registry.Registry.phase.Goals as goal

pub returns-clause-sound : goal.returns-clause-sound
returns-clause-sound c = subst IsSound c.self.view_is (sound _ _ _ _ _ _ _ _ _ c.self.invariant.0)
