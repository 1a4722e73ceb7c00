use Rattle.mpc_linear.specs.SumTheorems.{IsSumSoFar}
use Rattle.mpc_linear.proofs.products.dot_from.Given as goal

abbrev pub invariant-loop-k : goal.invariant-loop-k
invariant-loop-k l = IsSumSoFar l.start l.left l.right l.k l.sum
