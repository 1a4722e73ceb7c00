use Rattle.std.proofs.Common.{◌≡◌}
use Rattle.mpc_space.specs.Vector.{listed}
use Rattle.mpc_systems.proofs.RowWriting.{axis_at}
use Rattle.mpc_systems.proofs.entries.axis.Given as goal

abbrev pub invariant-loop-place : goal.invariant-loop-place
invariant-loop-place l = l.coefficients ≡ listed l.place (axis_at l.coordinate l.value)
