use Rattle.mpc_synthesis.proofs.BoxCounts.{box_of_counts}
use Rattle.mpc_synthesis.proofs.answers.grid_points.Goals as goal

pub returns : goal.returns
returns c = box_of_counts
