use Rattle.std.proofs.Common.{◌≡◌, take, negsuc}
use Rattle.mpc_exact.specs.Rational.{int}
use Rattle.mpc_space.specs.Vector.{later_entries, vec_scale}
use Rattle.mpc_recur.proofs.rows.negative_sides.Given as goal

abbrev pub invariant-loop-term : goal.invariant-loop-term
invariant-loop-term l = l.sides ≡ vec_scale (int (negsuc 0)) (later_entries (take l.term l.form))
