use Rattle.std.proofs.Common.{List, IsTrue, ◌↔◌}
use Rattle.mpc_exact.specs.Rational.{ℚ, neg_ℚ, ◌<ℚ◌}
use Rattle.mpc_frac.specs.Fits.{FitsSum}
use Rattle.mpc_space.specs.Vector.{dot}
use Rattle.mpc_linear.specs.Dot.{DotFits}
use Rattle.mpc_online.proofs.RowTests.{is_violated, is_positive}
use Rattle.mpc_online.specs.Wholes.{entries_of}
use Rattle.mpc_online.proofs.WholePoints.{count_few, row_and_point, test_fits_whole, violated_whole}
use Rattle.mpc_online.specs.Evens.{sides_of}
use Rattle.mpc_online.proofs.tests_of_rows.is_violated.Goals as goal

pub returns-clause-value : goal.returns-clause-value
returns-clause-value c = (
  λ t. is_violated c.args.qp.now (sides_of c.args.sides.now) (entries_of c.args.point.now) c.args.row_number c.in_ok-above.above c.in_ok-above.ensures.value (c.is_positive.ensures.0 t),
  λ v. c.is_positive.ensures.1 (is_positive c.args.qp.now (sides_of c.args.sides.now) (entries_of c.args.point.now) c.args.row_number c.in_ok-above.above c.in_ok-above.ensures.value v),
)

pub is_above-requires : goal.is_above-requires
is_above-requires c =
    count_few c.args.qp.now c.args.row_number c.requires.from_one c.requires.to_last c.args.rows.now c.requires.rows c.index-rows-place.result c.in-Some.row c.index-rows-place.is c.in-Some.is c.args.point.now c.in-Whole.numbers c.in-Whole.count c.in-Whole.is c.requires.point

pub returns-in-Some-is_above-clause-value : goal.returns-in-Some-is_above-clause-value
returns-in-Some-is_above-clause-value c =
    violated_whole c.args.qp.now c.args.row_number c.requires.from_one c.requires.to_last (sides_of c.args.sides.now) c.side_at.result c.side_at.ensures (entries_of c.args.point.now) c.in-Some-is_above.yes
    (row_and_point c.args.qp.now c.args.row_number c.requires.from_one c.requires.to_last c.args.rows.now c.requires.rows c.index-rows-place.result c.in-Some.row c.index-rows-place.is c.in-Some.is c.args.point.now c.in-Whole.numbers c.in-Whole.count c.in-Whole.is c.requires.point
    (λ (xs ys : List ℚ). IsTrue c.in-Some-is_above.yes ↔ (c.side_at.result <ℚ dot xs ys)) c.in-Some-is_above.ensures.value)

pub returns-in-Some-is_above-clause-wide : goal.returns-in-Some-is_above-clause-wide
returns-in-Some-is_above-clause-wide c =
    test_fits_whole c.args.qp.now c.args.row_number c.requires.from_one c.requires.to_last (sides_of c.args.sides.now) c.side_at.result c.side_at.ensures (entries_of c.args.point.now)
    (row_and_point c.args.qp.now c.args.row_number c.requires.from_one c.requires.to_last c.args.rows.now c.requires.rows c.index-rows-place.result c.in-Some.row c.index-rows-place.is c.in-Some.is c.args.point.now c.in-Whole.numbers c.in-Whole.count c.in-Whole.is c.requires.point
    (λ (xs ys : List ℚ). DotFits xs ys × FitsSum (dot xs ys) (neg_ℚ c.side_at.result)) c.in-Some-is_above.ensures.fits)
