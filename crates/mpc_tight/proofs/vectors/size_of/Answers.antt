use Rattle.std.proofs.Common.{◌∙◌, sym, refl}
use Rattle.std.proofs.lemmas.Bool.{false≢true}
use Rattle.mpc_exact.proofs.RationalOrder.{≤ℚ_of_<}
use Rattle.mpc_exact.proofs.OrderTheorems.{≤ℚ_of_not-<}
use Rattle.mpc_exact.proofs.Absolute.{abs-same, abs-negated}
use Rattle.mpc_tight.proofs.vectors.size_of.Goals as goal

pub returns-then-is_negative : goal.returns-then-is_negative
returns-then-is_negative c = c.neg.ensures ∙ sym (abs-negated c.args.number.now (≤ℚ_of_< (c.if-is_negative.ensures.0 refl)))

pub returns-else-is_negative : goal.returns-else-is_negative
returns-else-is_negative c = sym (abs-same c.args.number.now (≤ℚ_of_not-< (λ h. false≢true (c.if-is_negative.ensures.1 h))))
