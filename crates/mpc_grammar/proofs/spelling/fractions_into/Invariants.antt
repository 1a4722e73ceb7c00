use Rattle.mpc_frac.specs.Fits.{FitsFrac}
use Rattle.mpc_frac.specs.Text.{text_of as fraction_text}
use Rattle.mpc_grammar.proofs.SpellingLemmas.{IsReadTo, left}
use Rattle.mpc_grammar.proofs.spelling.fractions_into.Given as goal

abbrev pub invariant-loop-rest : goal.invariant-loop-rest
invariant-loop-rest l = IsReadTo fraction_text FitsFrac l.name l.text l.rest l.fractions

abbrev pub decreases-loop-rest : goal.decreases-loop-rest
decreases-loop-rest l = left l.rest
