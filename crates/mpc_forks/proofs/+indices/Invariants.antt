use Rattle.std.proofs.Common.{◌+◌, ◌*◌}
use Rattle.mpc_forks.proofs.+indices.Given as goal

abbrev pub decreases-ours : goal.decreases-ours
decreases-ours g l = 2 * l.last + 1

abbrev pub decreases-map_indices : goal.decreases-map_indices
decreases-map_indices g l = 2 * l.count
