use Rattle.std.specs.Fmt.{signed_decimal}
use Rattle.mpc_grammar.proofs.SpellingLemmas.{IsReadTo, left, IsSmall}
use Rattle.mpc_grammar.proofs.spelling.integers_of.Given as goal

abbrev pub invariant-loop-rest : goal.invariant-loop-rest
invariant-loop-rest l = IsReadTo signed_decimal IsSmall l.name l.text l.rest l.integers

abbrev pub decreases-loop-rest : goal.decreases-loop-rest
decreases-loop-rest l = left l.rest
