use Rattle.std.proofs.Common.{◌∙◌, [], ◌∷◌}
use Rattle.mpc_exact.specs.Rational.{◌+ℚ◌}
use Rattle.mpc_exact.proofs.RationalRing.{reads, by_ring}
use Rattle.mpc_space.specs.Vector.{dot}
use Rattle.mpc_space.proofs.Outcomes.{value_as}
use Rattle.mpc_linear.proofs.products.dot.Goals as goal

pub returns-clause-value : goal.returns-clause-value
returns-clause-value c =
    value_as c.dot_from.result (c.whole.result +ℚ dot c.as_slice.result.now c.as_slice-2.result.now) (dot c.args.left.now c.args.right.now)
    ((λ i. c.whole.ensures i +ℚ dot (c.as_slice.ensures i) (c.as_slice-2.ensures i))
    ∙ by_ring (dot c.args.left.now c.args.right.now ∷ []) (search reads depth 30) (search reads depth 30) tt)
    c.dot_from.ensures.value
