use Rattle.std.proofs.Common.{[], ◌∷◌, pos, codes}
use Rattle.mpc_exact.specs.Rational.{int}
use Rattle.mpc_plant_lines.proofs.LimitLemmas.{some_fractions, no_fractions, axis_spelled, axis_found}
use Rattle.mpc_plant_lines.proofs.limit_lines.axis_in.Goals as goal

pub returns-in-Some : goal.returns-in-Some
returns-in-Some c =
    axis_found c.one_fractions.ensures c.args.text.now c.as_slice.result.now
    (some_fractions (codes "grid") c.args.text.now c.in_ok-numbers.field-0 c.in-Some.numbers c.as_slice.result.now c.in_ok-numbers.ensures c.in-Some.is c.as_slice.ensures) c.axis_of.result c.axis_of.ensures

pub returns-in-None : goal.returns-in-None
returns-in-None c = λ axis is.
    no_fractions (codes "grid") c.args.text.now c.in_ok-numbers.field-0 c.in_ok-numbers.ensures c.in-None.is (axis.low ∷ axis.step ∷ int (pos axis.count) ∷ []) (axis_spelled c.args.text.now axis is)
