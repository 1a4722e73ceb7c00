use Rattle.std.proofs.Common.{◌≡◌, ℕ, ◌<◌}
use Rattle.mpc_space.specs.Vector.{listed}
use Rattle.mpc_plant.specs.RollWidth.{next_entry, EntryFits}
use Rattle.mpc_plant.proofs.rolling.next_state.Given as goal

abbrev pub invariant-loop-i : goal.invariant-loop-i
invariant-loop-i l = record {
  entries : l.entries ≡ listed l.i (next_entry l.plant l.state l.input);
  fits : (j : ℕ) → j < l.i → EntryFits l.plant l.state l.input j;
}
