use Rattle.mpc_law_lines.proofs.FormLemmas.{IsSetSoFar}
use Rattle.mpc_law_lines.proofs.law_lines.set_of.Given as goal

abbrev pub invariant-loop-number : goal.invariant-loop-number
invariant-loop-number l = IsSetSoFar l.rows l.numbers l.number-index l.set l.last
