use Rattle.std.proofs.Common.{length}
use Rattle.mpc_law_lines.proofs.CertReading.{PairsSoFar}
use Rattle.mpc_law_lines.proofs.tree_lines.cert_of.Given as goal

abbrev pub invariant-loop-left : goal.invariant-loop-left
invariant-loop-left l = PairsSoFar l.rows l.parts l.left l.cert l.last

abbrev pub decreases-loop-left : goal.decreases-loop-left
decreases-loop-left l = length l.left
