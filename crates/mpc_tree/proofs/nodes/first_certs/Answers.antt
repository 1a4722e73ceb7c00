use Rattle.std.proofs.Common.{◌≡◌, ◌<◌, Some, slice_get, arith, refl, length}
use Rattle.std.proofs.lemmas.Option.{slice_get_read}
use Rattle.mpc_tree.proofs.CellPoints.{fails_where}
use Rattle.mpc_tree.proofs.LeftOut.{no_certs}
use Rattle.mpc_tree.proofs.NodeLemmas.{certs_more}
use Rattle.mpc_tree.proofs.nodes.first_certs.Goals as goal
use Rattle.mpc_tree.proofs.nodes.first_certs.Goals.{After-index-rows-place}

is_row : (c : After-index-rows-place) → slice_get c.args.rows.now c.loop-place.place ≡ Some c.index-rows-place.result
is_row c =
    let within : c.loop-place.place < length c.args.rows.now = omega (arith, c.requires.left_out.within) in
    slice_get_read c.args.rows.now (length c.args.rows.now) c.loop-place.place c.index-rows-place.result refl within c.index-rows-place.is

pub loop-place-init : goal.loop-place-init
loop-place-init c = record {
  certs_are = no_certs c.args.qp.now c.args.cell.now.rows.items c.args.rows.now c.in_ok-certs.certs c.in_ok-certs.ensures.empty;
  opened = c.requires.open;
}

pub unreachable-requires : goal.unreachable-requires
unreachable-requires c =
    let is = is_row (goal.at.unreachable-requires c).After-index-rows-place in
    let end = rw c.in-Ok-Point.field-0-is at c.in-Ok-Point.ensures.end in
    c.requires.left_out.none c.loop-place.place c.index-rows-place.result c.loop-place-test.true is ((fails_where c.cell_theorems.ensures c.args.qp.now c.args.cell.now.rows.items c.index-rows-place.result).1 end.0)

pub unreachable-requires-in-Err-Wide : goal.unreachable-requires-in-Err-Wide
unreachable-requires-in-Err-Wide c =
    let is = is_row (goal.at.unreachable-requires-in-Err-Wide c).After-index-rows-place in
    (rw c.in-Err-Wide.field-0-is at c.in-Err-Wide.ensures.wide) (c.requires.left_out.fits c.loop-place.place c.index-rows-place.result c.loop-place-test.true is)

pub loop-place-preserved : goal.loop-place-preserved
loop-place-preserved c =
    let is = is_row (goal.at.loop-place-preserved c).After-index-rows-place in
    let end = rw c.in-Ok-Refuted.field-0-is at c.in-Ok-Refuted.ensures.end in
    record {
      certs_are = certs_more c.args.qp.now c.args.cell.now.rows.items c.args.rows.now c.loop-place.place c.index-rows-place.result is c.loop-place.certs c.push.new.self c.in-Ok-Refuted.cert c.loop-place.invariant.certs_are end.1 c.in_ok-push-in-Ok-Refuted.ensures.ok;
      opened = c.in-Ok-Refuted.ensures.open;
    }
