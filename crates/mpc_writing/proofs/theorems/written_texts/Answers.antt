use Rattle.mpc_writing.proofs.EachText as texts
use Rattle.mpc_writing.proofs.theorems.written_texts.Goals as goal

pub returns : goal.returns
returns c = texts.each_text c.word_theorems.ensures c.one_fractions.ensures c.one_integers.ensures
