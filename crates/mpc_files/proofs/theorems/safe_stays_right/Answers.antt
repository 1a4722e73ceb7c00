use Rattle.mpc_files.proofs.ForeverLemmas.{stays_right}
use Rattle.mpc_files.proofs.theorems.safe_stays_right.Goals as goal

pub returns : goal.returns
returns c = λ parts is accepts safe. stays_right c.replies_everywhere.ensures c.accepted_replies.ensures c.one_right_reply.ensures c.safe_goes_on.ensures parts is accepts safe
