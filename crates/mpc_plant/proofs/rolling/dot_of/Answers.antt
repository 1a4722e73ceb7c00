use Rattle.std.proofs.Common.{◌∙◌, [], ◌∷◌, ap}
use Rattle.mpc_exact.specs.Rational.{◌+ℚ◌}
use Rattle.mpc_exact.proofs.RationalRing.{reads, by_ring}
use Rattle.mpc_space.specs.Vector.{dot}
use Rattle.mpc_plant.proofs.Carried.{value_as}
use Rattle.mpc_plant.proofs.rolling.dot_of.Goals as goal

pub returns-clause-value : goal.returns-clause-value
returns-clause-value c =
    value_as c.dot_from.result _ _
    (ap (λ s. s +ℚ dot c.args.left.now c.args.right.now) c.whole.ensures ∙ by_ring (dot c.args.left.now c.args.right.now ∷ []) (search reads depth 30) (search reads depth 30) tt)
    c.dot_from.ensures.value
