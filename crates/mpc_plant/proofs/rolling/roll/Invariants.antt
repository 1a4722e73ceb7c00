use Rattle.mpc_plant.specs.Trajectory.{point_of}
use Rattle.mpc_plant.proofs.RolledStates.{RolledTo}
use Rattle.mpc_plant.proofs.rolling.roll.Given as goal

abbrev pub invariant-loop-step : goal.invariant-loop-step
invariant-loop-step l = RolledTo l.plant (point_of l.counts) l.moves.rows l.step l.states l.state
