use Rattle.std.proofs.Common.{[], get_or, pos}
use Rattle.mpc_exact.specs.Rational.{int}
use Rattle.mpc_space.specs.Vector.{column}
use Rattle.mpc_linear.specs.SumTheorems.{IsSumSoFar}
use Rattle.mpc_recur.specs.Forms.{state_forms}
use Rattle.mpc_recur.proofs.forms.from_state.Given as goal

abbrev pub invariant-loop-source : goal.invariant-loop-source
invariant-loop-source l = IsSumSoFar (int (pos 0)) (get_or l.plant.a.rows l.index []) (column (state_forms l.plant) l.term) l.source l.sum
