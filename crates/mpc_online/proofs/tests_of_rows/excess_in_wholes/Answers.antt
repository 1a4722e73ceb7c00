use Rattle.std.proofs.Common.{◌≡◌, ◌+◌, ◌-◌, ◌<◌, length, get_or, pos, to_z, of_z, subst, arith}
use Rattle.std.specs.Int.{w128}
use Rattle.std.proofs.lemmas.Option.{IfSome_then}
use Rattle.mpc_exact.specs.Rational.{◌-ℚ◌}
use Rattle.mpc_online.specs.StateRows.{level, side}
use Rattle.mpc_online.specs.Widths.{TestFits}
use Rattle.mpc_online.specs.Wholes.{first_of}
use Rattle.mpc_online.specs.Evens.{even_sides}
use Rattle.mpc_online.proofs.EvenRows.{even_within, even_handed, in_sides, numerator_small, excess_even, test_fits_even}
use Rattle.mpc_online.proofs.tests_of_rows.excess_in_wholes.Goals as goal
use Rattle.mpc_online.proofs.tests_of_rows.excess_in_wholes.Goals.{After-index-rows-place, After-index}

below : (c : After-index-rows-place) → c.args.row_number - 1 < length c.args.rows.now
below c = omega (arith, c.requires.from_one, c.requires.to_last, c.requires.rows.size)

back : (c : After-index-rows-place) → c.args.row_number - 1 + 1 ≡ c.args.row_number
back c = omega (arith, c.requires.from_one)

in_list : (c : After-index-rows-place) → c.args.row_number - 1 < length (even_sides c.args.sides.now)
in_list c = in_sides c.args.qp.now c.args.sides.now c.args.numbers.now c.args.count c.args.rows.now c.requires.rows c.requires.sides c.requires.count c.requires.few (c.args.row_number - 1) (below c) c.index-rows-place.result c.index-rows-place.is

read : (c : After-index) → to_z w128 (of_z w128 c.index.result.now) ≡ get_or c.args.sides.now.numerators.items (c.args.row_number - 1) (pos 0)
read c = even_handed c.args.sides.now (c.args.row_number - 1) (in_list c.before) c.index.result.now c.index.ensures

pub index-requires : goal.index-requires
index-requires c =
    let h = even_within c.args.sides.now (c.args.row_number - 1) (in_list (goal.at.index-requires c).After-index-rows-place) in
    let counted = c.args.sides.now.numerators.ok in
    omega (arith, h, counted)

pub excess_over_side-requires-clause-numerator : goal.excess_over_side-requires-clause-numerator
excess_over_side-requires-clause-numerator c =
    let at = goal.at.excess_over_side-requires-clause-numerator c in
    numerator_small c.args.qp.now c.args.sides.now c.args.numbers.now c.args.count c.args.rows.now c.requires.rows c.requires.sides c.requires.count c.requires.few (c.args.row_number - 1) (below at.After-index-rows-place) c.index-rows-place.result c.index-rows-place.is
    (to_z w128 (of_z w128 c.index.result.now)) (read at.After-index)

pub returns-clause-value : goal.returns-clause-value
returns-clause-value c =
    let at = goal.at.returns-clause-value c in
    IfSome_then c.excess_over_side.result c.excess_over_side.ensures.value
    (λ v h. subst (λ r. v ≡ level c.args.qp.now (first_of c.args.numbers.now c.args.count) r -ℚ side (even_sides c.args.sides.now) r) (back at.After-index-rows-place)
    (excess_even c.args.qp.now c.args.sides.now c.args.numbers.now c.args.count c.args.rows.now c.requires.rows c.requires.sides c.requires.count c.requires.few (c.args.row_number - 1) (below at.After-index-rows-place) c.index-rows-place.result c.index-rows-place.is
    (to_z w128 (of_z w128 c.index.result.now)) (read at.After-index) v h))

pub returns-clause-fits : goal.returns-clause-fits
returns-clause-fits c =
    let at = goal.at.returns-clause-fits c in
    IfSome_then c.excess_over_side.result c.excess_over_side.ensures.fits
    (λ v h. subst (TestFits c.args.qp.now (even_sides c.args.sides.now) (first_of c.args.numbers.now c.args.count)) (back at.After-index-rows-place)
    (test_fits_even c.args.qp.now c.args.sides.now c.args.numbers.now c.args.count c.args.rows.now c.requires.rows c.requires.sides c.requires.count c.requires.few (c.args.row_number - 1) (below at.After-index-rows-place) c.index-rows-place.result c.index-rows-place.is
    (to_z w128 (of_z w128 c.index.result.now)) (read at.After-index) h))
