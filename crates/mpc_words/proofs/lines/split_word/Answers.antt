use Rattle.mpc_words.proofs.LineLemmas.{words-cut, words-whole}
use Rattle.mpc_words.proofs.lines.split_word.Goals as goal

pub returns-in-Some-clause-words : goal.returns-in-Some-clause-words
returns-in-Some-clause-words c = words-cut _ _ _ c.in-Some.ensures.cut

pub returns-in-None-clause-words : goal.returns-in-None-clause-words
returns-in-None-clause-words c = words-whole _ c.in-None.ensures.cut
