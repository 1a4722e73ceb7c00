use Rattle.mpc_words.proofs.WholeLineLemmas.{concat-whole_lines, whole_lines-rest, before_short_of}
use Rattle.mpc_words.proofs.theorems.whole_line_theorems.Goals as goal

pub returns-clause-joined : goal.returns-clause-joined
returns-clause-joined c = concat-whole_lines

pub returns-clause-rest : goal.returns-clause-rest
returns-clause-rest c = whole_lines-rest

pub returns-clause-short : goal.returns-clause-short
returns-clause-short c = before_short_of
