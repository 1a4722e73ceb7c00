use Rattle.mpc_cover.proofs.Farkas.{carried, implied_by_carrier}
use Rattle.mpc_cover.proofs.farkas_theorems.Goals as goal

pub returns-clause-carried : goal.returns-clause-carried
returns-clause-carried c = λ s r closed size v point implied. carried s closed r size v point implied

pub returns-clause-implied : goal.returns-clause-implied
returns-clause-implied c = λ s r closed not_strict carrier. implied_by_carrier s closed r not_strict carrier
