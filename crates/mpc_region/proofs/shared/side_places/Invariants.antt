use Rattle.mpc_region.specs.Shared.{AreSidePlaces}
use Rattle.mpc_region.proofs.shared.side_places.Given as goal

abbrev pub invariant-loop-index : goal.invariant-loop-index
invariant-loop-index l = AreSidePlaces l.first l.index l.places.items
