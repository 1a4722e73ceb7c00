use Rattle.mpc_words.proofs.LineLemmas.{one_before, one_behind, no_cut}
use Rattle.mpc_words.proofs.theorems.cut_theorems.Goals as goal

pub returns-clause-one_before : goal.returns-clause-one_before
returns-clause-one_before c = one_before

pub returns-clause-one_behind : goal.returns-clause-one_behind
returns-clause-one_behind c = one_behind

pub returns-clause-no_cut : goal.returns-clause-no_cut
returns-clause-no_cut c = no_cut
