use Rattle.mpc_turn.proofs.Hands.{claimed_hand, in_hand, ended_hand}
use Rattle.mpc_turn.proofs.theorems.hand_theorems.Goals as goal

pub returns-clause-claimed : goal.returns-clause-claimed
returns-clause-claimed c = λ a b t none k. claimed_hand a b t none k

pub returns-clause-in_hand : goal.returns-clause-in_hand
returns-clause-in_hand c = λ a b t none k. in_hand a b t c.legal_theorems.ensures.appended none k

pub returns-clause-ended : goal.returns-clause-ended
returns-clause-ended c = λ a b t kind ends one d. ended_hand a b t kind ends one d
