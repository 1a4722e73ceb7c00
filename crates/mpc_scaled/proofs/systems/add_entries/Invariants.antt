use Rattle.std.proofs.Common.{◌≡◌, ◌≤◌, length, take}
use Rattle.mpc_space.specs.Vector.{coordinate}
use Rattle.mpc_scaled.specs.WholeSystems.{AreBehind}
use Rattle.mpc_scaled.proofs.systems.add_entries.Given as goal

abbrev pub invariant-loop-number : goal.invariant-loop-number
invariant-loop-number l = record {
  kept : take (length l.fn.coefficients.items) l.coefficients.items ≡ l.fn.coefficients.items;
  behind : AreBehind l.fn.coefficients.items l.coefficients.items l.number-index l.scale (coordinate l.row) l.most;
  bound : l.fn.most ≤ l.most;
}
