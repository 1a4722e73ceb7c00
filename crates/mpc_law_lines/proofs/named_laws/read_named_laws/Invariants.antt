use Rattle.mpc_law_lines.proofs.NamedLemmas.{IsReadSoFar}
use Rattle.mpc_law_lines.proofs.named_laws.read_named_laws.Given as goal

abbrev pub invariant-loop : goal.invariant-loop
invariant-loop l = IsReadSoFar l.plant l.forms l.count l.initial.lines l.lines l.laws l.used l.counter
