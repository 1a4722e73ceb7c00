use Rattle.mpc_words.proofs.NumeralLemmas.{one_number, numeral_word, printed}
use Rattle.mpc_words.proofs.theorems.natural_theorems.Goals as goal

pub returns-clause-one_number : goal.returns-clause-one_number
returns-clause-one_number c = one_number

pub returns-clause-word : goal.returns-clause-word
returns-clause-word c = numeral_word

pub returns-clause-printed : goal.returns-clause-printed
returns-clause-printed c = printed
