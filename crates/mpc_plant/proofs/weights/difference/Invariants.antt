use Rattle.std.proofs.Common.{◌≡◌, ◌-◌}
use Rattle.mpc_plant.specs.CheckedPlant.{difference_from}
use Rattle.mpc_plant.proofs.weights.difference.Given as goal

abbrev pub invariant-loop-row : goal.invariant-loop-row
invariant-loop-row l = difference_from l.matrix.rows l.size 0 l.size ≡ difference_from l.matrix.rows l.size l.row (l.size - l.row)
