use Rattle.std.proofs.Common.{◌≡◌}
use Rattle.mpc_space.specs.Vector.{zeros}
use Rattle.mpc_plant_lines.proofs.plant_lines.zero_vector.Given as goal

abbrev pub invariant-loop : goal.invariant-loop
invariant-loop l = l.entries ≡ zeros l.counter
