use Rattle.std.proofs.Common.{◌+◌, Ok, refl, subst, arith}
use Rattle.std.proofs.lemmas.Option.{slice_get_read}
use Rattle.mpc_space.specs.Matrix.{height}
use Rattle.mpc_rows.specs.declared.places.Place.TheVariants.{CheckLeaf}
use Rattle.mpc_check.specs.declared.answers.Spot.TheVariants.{LeafRow}
use Rattle.mpc_check.specs.Borders.{IsFormed}
use Rattle.mpc_check.specs.Findings.{IsDecided}
use Rattle.mpc_check.specs.LeafConditions.{RowFits, RowHolds, LeafRowMet, LeafRowFinds}
use Rattle.mpc_controller.specs.Ways.{way_rows}
use Rattle.mpc_check.proofs.FindingLemmas.{each_more, each_done, first_error, first_spot, condition_error}
use Rattle.mpc_check.proofs.leaves.search_law_leaf.Goals as goal

pub bounds-rows-at_row : goal.bounds-rows-at_row
bounds-rows-at_row c = omega (arith, c.requires.one_each, c.rows-at_row-end.ensures.value, c.loop-at_row-test.true)

pub returns-in-Ok-false : goal.returns-in-Ok-false
returns-in-Ok-false c law formed =
    let qp = c.args.qp.now in
    let path = way_rows c.args.cell.now.tree.now c.args.cell.now.way.now in
    let i = c.loop-at_row.at_row in
    let here : IsFormed qp law i c.index-rows-at_row.result = formed i c.index-rows-at_row.result (slice_get_read c.args.rows.now _ i c.index-rows-at_row.result refl (omega (arith, c.requires.one_each, c.rows-at_row-end.ensures.value, c.loop-at_row-test.true)) c.index-rows-at_row.is) in
    let decided = subst (λ found. IsDecided (RowFits qp path law c.args.certs.now i) (RowHolds qp path law c.args.certs.now i) (CheckLeaf c.args.number (i + 1)) (Ok found)) c.in-Ok-false.field-0-test (c.in-Ok-false.ensures law here) in
    first_spot (LeafRowMet qp path law c.args.certs.now) (LeafRowFinds qp path c.args.number law c.args.certs.now) (height qp.g) i (omega (arith, c.rows-at_row-end.ensures.value, c.loop-at_row-test.true)) (c.loop-at_row.invariant law formed) (LeafRow c.args.number (i + 1))
    (refl, decided.0, decided.1)

pub returns-in-Err : goal.returns-in-Err
returns-in-Err c law formed =
    let qp = c.args.qp.now in
    let path = way_rows c.args.cell.now.tree.now c.args.cell.now.way.now in
    let i = c.loop-at_row.at_row in
    let here : IsFormed qp law i c.index-rows-at_row.result = formed i c.index-rows-at_row.result (slice_get_read c.args.rows.now _ i c.index-rows-at_row.result refl (omega (arith, c.requires.one_each, c.rows-at_row-end.ensures.value, c.loop-at_row-test.true)) c.index-rows-at_row.is) in
    first_error (LeafRowMet qp path law c.args.certs.now) (LeafRowFinds qp path c.args.number law c.args.certs.now) (height qp.g) i (omega (arith, c.rows-at_row-end.ensures.value, c.loop-at_row-test.true)) (c.loop-at_row.invariant law formed) c.in-Err.error
    (condition_error (RowFits qp path law c.args.certs.now i) (RowHolds qp path law c.args.certs.now i) (LeafRow c.args.number (i + 1)) (CheckLeaf c.args.number (i + 1)) c.in-Err.error (c.in-Err.ensures law here))

pub loop-at_row-preserved : goal.loop-at_row-preserved
loop-at_row-preserved c law formed =
    let qp = c.args.qp.now in
    let path = way_rows c.args.cell.now.tree.now c.args.cell.now.way.now in
    let i = c.loop-at_row.at_row in
    let here : IsFormed qp law i c.index-rows-at_row.result = formed i c.index-rows-at_row.result (slice_get_read c.args.rows.now _ i c.index-rows-at_row.result refl (omega (arith, c.requires.one_each, c.rows-at_row-end.ensures.value, c.loop-at_row-test.true)) c.index-rows-at_row.is) in
    each_more (LeafRowMet qp path law c.args.certs.now) i (c.loop-at_row.invariant law formed)
    (subst (λ found. IsDecided (RowFits qp path law c.args.certs.now i) (RowHolds qp path law c.args.certs.now i) (CheckLeaf c.args.number (i + 1)) (Ok found)) c.in-Ok-true.field-0-test (c.in-Ok-true.ensures law here))

pub returns : goal.returns
returns c law formed =
    let qp = c.args.qp.now in
    let path = way_rows c.args.cell.now.tree.now c.args.cell.now.way.now in
    each_done (LeafRowMet qp path law c.args.certs.now) c.loop-at_row.at_row (height qp.g) (omega (arith, c.rows-at_row-end.ensures.value, c.loop-at_row-test.false)) (c.loop-at_row.invariant law formed)
