use Rattle.std.proofs.Common.{sym, ◌∙◌}
use Rattle.mpc_check.proofs.SumLemmas.{same_number, same_test}
use Rattle.mpc_check.proofs.gradients.are_equal.Goals as goal

pub returns : goal.returns
returns c = (λ t. same_number c.args.left.now c.args.right.now (sym c.eq.ensures ∙ t), λ e. c.eq.ensures ∙ same_test c.args.left.now c.args.right.now e)
