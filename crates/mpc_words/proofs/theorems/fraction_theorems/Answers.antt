use Rattle.mpc_words.proofs.FractionLemmas.{one_fraction, fraction_word}
use Rattle.mpc_words.proofs.theorems.fraction_theorems.Goals as goal

pub returns-clause-one_number : goal.returns-clause-one_number
returns-clause-one_number c = one_fraction

pub returns-clause-word : goal.returns-clause-word
returns-clause-word c = fraction_word
