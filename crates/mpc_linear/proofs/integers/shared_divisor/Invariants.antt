use Rattle.mpc_linear.proofs.PrimitiveLemmas.{Sharing}
use Rattle.mpc_linear.proofs.integers.shared_divisor.Given as goal

abbrev pub invariant-loop-integer : goal.invariant-loop-integer
invariant-loop-integer l = Sharing l.row l.bound l.integer-index l.shared
