use Rattle.mpc_law_lines.proofs.FormLemmas.{NameSoFar}
use Rattle.mpc_law_lines.proofs.named_laws.named_by.Given as goal

abbrev pub invariant-loop-integer : goal.invariant-loop-integer
invariant-loop-integer l = NameSoFar l.all l.used l.integers l.integer-index l.numbers l.last
