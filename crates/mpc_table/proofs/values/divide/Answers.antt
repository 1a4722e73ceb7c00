use Rattle.std.proofs.Common.{◌∙◌}
use Rattle.std.specs.Int.{w128}
use Rattle.std.proofs.lemmas.Int.{to_z-of_z}
use mir.Val.{to_z, of_z}
use Rattle.mpc_exact.specs.Rational.{quotient}
use Rattle.mpc_table.proofs.WholeNumbers.{no_error}
use Rattle.mpc_table.proofs.values.divide.Goals as goal

pub unreachable-requires : goal.unreachable-requires
unreachable-requires c =
    no_error c.new.result c.in-Err.field-0 c.args.num c.args.den (to_z w128 (of_z w128 c.args.num)) (to_z w128 (of_z w128 c.args.den)) c.in-Err.is c.new.ensures.zero c.new.ensures.wide
    (to_z-of_z w128 c.args.num c.ranges.num) (to_z-of_z w128 c.args.den c.ranges.den) c.requires.num_fits c.requires.positive c.requires.den_fits

pub returns : goal.returns
returns c = c.in-Ok.ensures.value ∙ (λ i. quotient (to_z-of_z w128 c.args.num c.ranges.num i) (to_z-of_z w128 c.args.den c.ranges.den i))
