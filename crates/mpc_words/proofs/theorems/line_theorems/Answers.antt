use Rattle.mpc_words.proofs.LineLemmas.{some_words, words_of_line, one_first, one_list}
use Rattle.mpc_words.proofs.theorems.line_theorems.Goals as goal

pub returns-clause-some_words : goal.returns-clause-some_words
returns-clause-some_words c = some_words

pub returns-clause-parts : goal.returns-clause-parts
returns-clause-parts c = words_of_line

pub returns-clause-one_first : goal.returns-clause-one_first
returns-clause-one_first c = one_first

pub returns-clause-one_list : goal.returns-clause-one_list
returns-clause-one_list c = one_list
