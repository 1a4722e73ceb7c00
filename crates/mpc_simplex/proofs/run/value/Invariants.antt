use Rattle.std.proofs.Common.{◌≡◌, ℕ, ◌<◌, false}
use Rattle.mpc_space.specs.Total.{total}
use Rattle.mpc_runs.specs.Table.{position_of}
use Rattle.mpc_rows.specs.RunWidth.{TermFits}
use Rattle.mpc_runs.proofs.Table.{first_terms, second_terms}
use Rattle.mpc_simplex.proofs.NonbasicSides.{reached}
use Rattle.mpc_simplex.proofs.run.value.Given as goal

abbrev pub invariant-loop-side : goal.invariant-loop-side
invariant-loop-side l = record {
  first : l.first ≡ total (reached l.variables l.sides l.side-index) (first_terms l.system (position_of l.system.width l.seats l.entries) l.basic);
  second : l.second ≡ total (reached l.variables l.sides l.side-index) (second_terms l.system (position_of l.system.width l.seats l.entries) l.basic);
  fits : (z : ℕ) → z < reached l.variables l.sides l.side-index → (position_of l.system.width l.seats l.entries).is_basic z ≡ false → TermFits l.system (position_of l.system.width l.seats l.entries) l.basic z;
}
