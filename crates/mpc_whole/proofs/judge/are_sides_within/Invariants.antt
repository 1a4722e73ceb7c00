use Rattle.std.proofs.Common.{ℕ, ◌<◌, ◌≤◌, unsigned_abs}
use Rattle.mpc_whole.specs.Whole.{side_cell}
use Rattle.mpc_whole.proofs.judge.are_sides_within.Given as goal

abbrev pub invariant-loop-side : goal.invariant-loop-side
invariant-loop-side l = (i : ℕ) → i < l.side → unsigned_abs (side_cell l.system l.entries l.numbers i l.column) ≤ l.limit
