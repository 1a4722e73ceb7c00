use Rattle.std.proofs.Common.{◌+◌, refl}
use Rattle.mpc_region.proofs.SharedParts.{sides_more}
use Rattle.mpc_region.proofs.shared.side_places.Goals as goal

pub loop-index-preserved : goal.loop-index-preserved
loop-index-preserved c = sides_more c.args.first c.loop-index.index c.loop-index.places.items c.push.new.self.items (c.args.first + c.loop-index.index) c.loop-index.invariant refl c.in_ok-push.ensures.items
