use Rattle.mpc_file.proofs.FileText as lemmas
use Rattle.mpc_file.proofs.theorems.one_text.Goals as goal

pub returns : goal.returns
returns c = lemmas.one_text
