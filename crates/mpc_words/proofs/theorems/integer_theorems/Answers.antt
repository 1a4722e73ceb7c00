use Rattle.mpc_words.proofs.IntegerLemmas.{one_integer, signed_word}
use Rattle.mpc_words.proofs.theorems.integer_theorems.Goals as goal

pub returns-clause-one_number : goal.returns-clause-one_number
returns-clause-one_number c = one_integer

pub returns-clause-word : goal.returns-clause-word
returns-clause-word c = signed_word
