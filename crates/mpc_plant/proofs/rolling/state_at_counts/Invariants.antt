use Rattle.mpc_plant.specs.Trajectory.{point_of}
use Rattle.mpc_plant.proofs.RollLemmas.{Starts}
use Rattle.mpc_plant.proofs.rolling.state_at_counts.Given as goal

abbrev pub invariant-loop-i : goal.invariant-loop-i
invariant-loop-i l = Starts l.plant.grid (point_of l.counts) l.i l.state
