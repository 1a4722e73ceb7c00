use Rattle.std.proofs.Common.{refl, sym, subst}
use Rattle.mpc_tree.specs.Pieces.{IsWideIn}
use Rattle.mpc_tree.proofs.Joining.{behind_none}
use Rattle.mpc_tree.proofs.threads.nodes_of.Goals as goal

pub returns-in-Refused-clause-wide : goal.returns-in-Refused-clause-wide
returns-in-Refused-clause-wide c = subst (λ p. IsWideIn c.args.qp.now c.args.laws.now p 1 c.in-Refused.place) (sym c.in-Refused.is) (0, refl, sym (behind_none c.in-Refused.place))
