use Rattle.mpc_plant.specs.Trajectory.{point_of}
use Rattle.mpc_plant.proofs.CostedSteps.{CostedTo}
use Rattle.mpc_plant.proofs.costs.cost.Given as goal

abbrev pub invariant-loop-step : goal.invariant-loop-step
invariant-loop-step l = CostedTo l.plant (point_of l.counts) l.moves.rows l.step l.state l.sum
