use Rattle.std.proofs.Common.{◌≡◌, take}
use Rattle.mpc_space.specs.Vector.{later_entries}
use Rattle.mpc_recur.proofs.rows.sides.Given as goal

abbrev pub invariant-loop-term : goal.invariant-loop-term
invariant-loop-term l = l.sides ≡ later_entries (take l.term l.form)
