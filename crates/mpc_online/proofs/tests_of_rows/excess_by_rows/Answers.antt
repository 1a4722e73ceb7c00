use Rattle.std.proofs.Common.{List, ◌≡◌}
use Rattle.mpc_exact.specs.Rational.{ℚ, neg_ℚ, ◌-ℚ◌}
use Rattle.mpc_frac.specs.Fits.{FitsSum}
use Rattle.mpc_space.specs.Vector.{dot}
use Rattle.mpc_linear.specs.Dot.{DotFits}
use Rattle.mpc_online.specs.Wholes.{entries_of}
use Rattle.mpc_online.proofs.WholePoints.{count_few, row_and_point, test_fits_whole, excess_whole}
use Rattle.mpc_online.specs.Evens.{sides_of}
use Rattle.mpc_online.proofs.tests_of_rows.excess_by_rows.Goals as goal

pub difference_in_wholes-requires : goal.difference_in_wholes-requires
difference_in_wholes-requires c =
    count_few c.args.qp.now c.args.row_number c.requires.from_one c.requires.to_last c.args.rows.now c.requires.rows c.index-rows-place.result c.in-Some.row c.index-rows-place.is c.in-Some.is c.args.point.now c.in-Whole.numbers c.in-Whole.count c.in-Whole.is c.requires.point

pub returns-in-Some-difference_in_wholes-clause-value : goal.returns-in-Some-difference_in_wholes-clause-value
returns-in-Some-difference_in_wholes-clause-value c =
    excess_whole c.args.qp.now c.args.row_number c.requires.from_one c.requires.to_last (sides_of c.args.sides.now) c.side_at.result c.side_at.ensures (entries_of c.args.point.now) c.in-Some-difference_in_wholes.above
    (row_and_point c.args.qp.now c.args.row_number c.requires.from_one c.requires.to_last c.args.rows.now c.requires.rows c.index-rows-place.result c.in-Some.row c.index-rows-place.is c.in-Some.is c.args.point.now c.in-Whole.numbers c.in-Whole.count c.in-Whole.is c.requires.point
    (λ (xs ys : List ℚ). c.in-Some-difference_in_wholes.above ≡ dot xs ys -ℚ c.side_at.result) c.in-Some-difference_in_wholes.ensures.value)

pub returns-in-Some-difference_in_wholes-clause-wide : goal.returns-in-Some-difference_in_wholes-clause-wide
returns-in-Some-difference_in_wholes-clause-wide c =
    test_fits_whole c.args.qp.now c.args.row_number c.requires.from_one c.requires.to_last (sides_of c.args.sides.now) c.side_at.result c.side_at.ensures (entries_of c.args.point.now)
    (row_and_point c.args.qp.now c.args.row_number c.requires.from_one c.requires.to_last c.args.rows.now c.requires.rows c.index-rows-place.result c.in-Some.row c.index-rows-place.is c.in-Some.is c.args.point.now c.in-Whole.numbers c.in-Whole.count c.in-Whole.is c.requires.point
    (λ (xs ys : List ℚ). DotFits xs ys × FitsSum (dot xs ys) (neg_ℚ c.side_at.result)) c.in-Some-difference_in_wholes.ensures.fits)
