use Rattle.std.proofs.Common.{◌∙◌, ap}
use Rattle.mpc_exact.specs.Rational.{◌+ℚ◌}
use Rattle.mpc_space.specs.Vector.{dot}
use Rattle.mpc_space.proofs.Outcomes.{value_as}
use Rattle.mpc_online.proofs.RowTests.{nothing_more}
use Rattle.mpc_online.proofs.solutions.dot_of.Goals as goal

pub returns-clause-value : goal.returns-clause-value
returns-clause-value c =
    value_as c.dot_from.result _ _
    (ap (λ s. s +ℚ dot c.args.left.now c.args.right.now) c.whole.ensures ∙ nothing_more (dot c.args.left.now c.args.right.now))
    c.dot_from.ensures.value
