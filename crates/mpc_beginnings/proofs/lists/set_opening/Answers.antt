use Rattle.mpc_beginnings.proofs.Continued.{none_small}
use Rattle.mpc_beginnings.proofs.lists.set_opening.Goals as goal

pub returns-clause-small : goal.returns-clause-small
returns-clause-small c = record {
  first = λ e. none_small _ _ c.in_ok-put_opening.ensures.firsts;
  second = λ e. none_small _ _ c.in_ok-put_opening.ensures.seconds;
}
