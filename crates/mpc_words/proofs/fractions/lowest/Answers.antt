use Rattle.std.specs.Int.{w128}
use Rattle.std.proofs.lemmas.Int.{to_z-of_z}
use Rattle.mpc_words.proofs.FractionLemmas.{parts_as, other_parts, no_error}
use Rattle.mpc_words.proofs.fractions.lowest.Goals as goal

pub returns-else-has_parts : goal.returns-else-has_parts
returns-else-has_parts c = λ x fits h.
    other_parts x c.in-Ok.fraction _ _ c.in-Ok.ensures.value c.if-has_parts.ensures
    (parts_as x c.args.num c.args.den _ _ (to_z-of_z w128 c.args.num c.ranges.num) (to_z-of_z w128 c.args.den c.ranges.den) h)

pub returns-in-Err : goal.returns-in-Err
returns-in-Err c = λ x fits h.
    no_error x _ _ (parts_as x c.args.num c.args.den _ _ (to_z-of_z w128 c.args.num c.ranges.num) (to_z-of_z w128 c.args.den c.ranges.den) h)
    c.in-Err.field-0 fits c.in-Err.ensures.zero.0 c.in-Err.ensures.wide.0
