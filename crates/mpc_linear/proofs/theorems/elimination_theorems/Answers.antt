use Rattle.mpc_linear.proofs.EndTheorems.{elimination_answers}
use Rattle.mpc_linear.proofs.theorems.elimination_theorems.Goals as goal

pub returns : goal.returns
returns c = elimination_answers
