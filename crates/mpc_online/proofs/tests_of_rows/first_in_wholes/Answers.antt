use Rattle.std.proofs.Common.{◌≡◌, ◌+◌, true, false, to_z, of_z, get_or, sym, ◌∙◌, subst, arith}
use Rattle.std.specs.Int.{w128}
use Rattle.mpc_wholes.specs.declared.numbers.Wholes.{Wholes}
use Rattle.mpc_wholes.specs.declared.spans.Span.{Span}
use Rattle.mpc_wholes.specs.Spans.{IsSpanOf, AreSpansOf}
use Rattle.mpc_online.specs.Wholes.{first_of}
use Rattle.mpc_online.specs.Evens.{even_sides}
use Rattle.mpc_online.proofs.RowTests.{met_more, found_first, found_fits}
use Rattle.mpc_online.proofs.EvenRows.{even_within, even_handed, in_sides, numerator_small, violated_even, test_fits_even}
use Rattle.mpc_online.proofs.tests_of_rows.first_in_wholes.Goals as goal

different : {b : _} → b ≡ true → b ≡ false → ⊥
different e f = cc

pub index-requires : goal.index-requires
index-requires c =
    let h = even_within c.args.sides.now c.loop-index.index (in_sides c.args.qp.now c.args.sides.now c.args.numbers.now c.args.count c.args.rows.now c.requires.rows c.requires.sides c.requires.count c.requires.few c.loop-index.index c.loop-index-test.true c.index-rows-index.result c.index-rows-index.is) in
    let counted = c.args.sides.now.numerators.ok in
    omega (arith, h, counted)

pub is_above_side-requires-clause-span : goal.is_above_side-requires-clause-span
is_above_side-requires-clause-span c =
    let columns : c.args.qp.now.g.columns ≡ c.args.count = c.args.qp.now.is_program.g_shape.columns_are ∙ sym c.requires.count in
    let nothing : Span = record { first = 0; end = 0 } in
    let spans : AreSpansOf c.args.rows.now c.args.count c.args.spans.now = subst (λ n. AreSpansOf c.args.rows.now n c.args.spans.now) columns c.requires.spans in
    subst (λ (w : Wholes). IsSpanOf w.numerators c.args.count (get_or c.args.spans.now c.loop-index.index nothing)) (sym c.index-rows-index.is)
    (spans.at c.loop-index.index c.index-rows-index.result nothing c.loop-index-test.true)

pub is_above_side-requires-clause-numerator : goal.is_above_side-requires-clause-numerator
is_above_side-requires-clause-numerator c =
    numerator_small c.args.qp.now c.args.sides.now c.args.numbers.now c.args.count c.args.rows.now c.requires.rows c.requires.sides c.requires.count c.requires.few c.loop-index.index c.loop-index-test.true c.index-rows-index.result c.index-rows-index.is
    (to_z w128 (of_z w128 c.index.result.now)) (even_handed c.args.sides.now c.loop-index.index (in_sides c.args.qp.now c.args.sides.now c.args.numbers.now c.args.count c.args.rows.now c.requires.rows c.requires.sides c.requires.count c.requires.few c.loop-index.index c.loop-index-test.true c.index-rows-index.result c.index-rows-index.is) c.index.result.now c.index.ensures)

pub loop-index-preserved : goal.loop-index-preserved
loop-index-preserved c =
    let violated = violated_even c.args.qp.now c.args.sides.now c.args.numbers.now c.args.count c.args.rows.now c.requires.rows c.requires.sides c.requires.count c.requires.few c.loop-index.index c.loop-index-test.true c.index-rows-index.result c.index-rows-index.is
    (to_z w128 (of_z w128 c.index.result.now)) (even_handed c.args.sides.now c.loop-index.index (in_sides c.args.qp.now c.args.sides.now c.args.numbers.now c.args.count c.args.rows.now c.requires.rows c.requires.sides c.requires.count c.requires.few c.loop-index.index c.loop-index-test.true c.index-rows-index.result c.index-rows-index.is) c.index.result.now c.index.ensures) c.is_above_side.result c.is_above_side.ensures.value in
    let fits = test_fits_even c.args.qp.now c.args.sides.now c.args.numbers.now c.args.count c.args.rows.now c.requires.rows c.requires.sides c.requires.count c.requires.few c.loop-index.index c.loop-index-test.true c.index-rows-index.result c.index-rows-index.is
    (to_z w128 (of_z w128 c.index.result.now)) (even_handed c.args.sides.now c.loop-index.index (in_sides c.args.qp.now c.args.sides.now c.args.numbers.now c.args.count c.args.rows.now c.requires.rows c.requires.sides c.requires.count c.requires.few c.loop-index.index c.loop-index-test.true c.index-rows-index.result c.index-rows-index.is) c.index.result.now c.index.ensures) c.is_above_side.ensures.fits in
    met_more c.args.qp.now (even_sides c.args.sides.now) (first_of c.args.numbers.now c.args.count) (c.loop-index.index + 1) (λ v. different (violated.1 v) c.if-is_above_side.false) fits c.loop-index.invariant

pub returns-then-is_above_side-clause-first : goal.returns-then-is_above_side-clause-first
returns-then-is_above_side-clause-first c =
    let violated = violated_even c.args.qp.now c.args.sides.now c.args.numbers.now c.args.count c.args.rows.now c.requires.rows c.requires.sides c.requires.count c.requires.few c.loop-index.index c.loop-index-test.true c.index-rows-index.result c.index-rows-index.is
    (to_z w128 (of_z w128 c.index.result.now)) (even_handed c.args.sides.now c.loop-index.index (in_sides c.args.qp.now c.args.sides.now c.args.numbers.now c.args.count c.args.rows.now c.requires.rows c.requires.sides c.requires.count c.requires.few c.loop-index.index c.loop-index-test.true c.index-rows-index.result c.index-rows-index.is) c.index.result.now c.index.ensures) c.is_above_side.result c.is_above_side.ensures.value in
    found_first c.args.qp.now (even_sides c.args.sides.now) (first_of c.args.numbers.now c.args.count) (c.loop-index.index + 1) (violated.0 c.if-is_above_side.true) (omega arith) (omega (arith, c.loop-index-test.true, c.requires.rows.size)) c.loop-index.invariant

pub returns-then-is_above_side-clause-fits : goal.returns-then-is_above_side-clause-fits
returns-then-is_above_side-clause-fits c =
    let violated = violated_even c.args.qp.now c.args.sides.now c.args.numbers.now c.args.count c.args.rows.now c.requires.rows c.requires.sides c.requires.count c.requires.few c.loop-index.index c.loop-index-test.true c.index-rows-index.result c.index-rows-index.is
    (to_z w128 (of_z w128 c.index.result.now)) (even_handed c.args.sides.now c.loop-index.index (in_sides c.args.qp.now c.args.sides.now c.args.numbers.now c.args.count c.args.rows.now c.requires.rows c.requires.sides c.requires.count c.requires.few c.loop-index.index c.loop-index-test.true c.index-rows-index.result c.index-rows-index.is) c.index.result.now c.index.ensures) c.is_above_side.result c.is_above_side.ensures.value in
    let fits = test_fits_even c.args.qp.now c.args.sides.now c.args.numbers.now c.args.count c.args.rows.now c.requires.rows c.requires.sides c.requires.count c.requires.few c.loop-index.index c.loop-index-test.true c.index-rows-index.result c.index-rows-index.is
    (to_z w128 (of_z w128 c.index.result.now)) (even_handed c.args.sides.now c.loop-index.index (in_sides c.args.qp.now c.args.sides.now c.args.numbers.now c.args.count c.args.rows.now c.requires.rows c.requires.sides c.requires.count c.requires.few c.loop-index.index c.loop-index-test.true c.index-rows-index.result c.index-rows-index.is) c.index.result.now c.index.ensures) c.is_above_side.ensures.fits in
    found_fits c.args.qp.now (even_sides c.args.sides.now) (first_of c.args.numbers.now c.args.count) (c.loop-index.index + 1) (violated.0 c.if-is_above_side.true) (omega arith) fits c.loop-index.invariant
