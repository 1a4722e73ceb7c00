use Rattle.std.proofs.Common.{[], get_or}
use Rattle.mpc_space.specs.Vector.{column}
use Rattle.mpc_linear.specs.SumTheorems.{IsSumSoFar}
use Rattle.mpc_recur.proofs.forms.with_moves.Given as goal

abbrev pub invariant-loop-q : goal.invariant-loop-q
invariant-loop-q l = IsSumSoFar l.start (get_or l.plant.b.rows l.index []) (column l.law.moves.rows l.term) l.q l.sum
