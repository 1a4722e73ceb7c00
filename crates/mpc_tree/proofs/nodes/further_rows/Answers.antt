use Rattle.std.proofs.Common.{◌≡◌, ◌+◌, ◌-◌, Some, slice_get, subst, sym, drop, arith, refl, length}
use Rattle.std.proofs.lemmas.Option.{slice_get_read}
use Rattle.mpc_tree.specs.Cells.{NoneFailsBefore}
use Rattle.mpc_tree.specs.LeafCerts.{AreCertsOf}
use Rattle.mpc_tree.specs.NodeRuns.{HoldsFit}
use Rattle.mpc_tree.proofs.CellPoints.{fails_where}
use Rattle.mpc_tree.proofs.CellRuns.{side_run}
use Rattle.mpc_tree.proofs.LeftOut.{further_none, further_more}
use Rattle.mpc_tree.proofs.NodeLemmas.{fails_none, holds_fit, holds_wide}
use Rattle.mpc_tree.proofs.nodes.further_rows.Goals as goal

pub loop-place-init : goal.loop-place-init
loop-place-init c = record {
  none = c.requires.left_out.none;
  certs_are = subst (AreCertsOf c.args.qp.now c.args.cell.now.rows.items (drop c.args.met.held c.args.rows.now) (c.args.met.held - c.args.met.held)) (sym c.new-certs.ensures) (further_none c.args.qp.now c.args.cell.now.rows.items c.args.rows.now c.args.met.held);
  fits = c.requires.left_out.fits;
  opened = c.requires.open;
}

pub returns-in-Ok-Point-clause-held : goal.returns-in-Ok-Point-clause-held
returns-in-Ok-Point-clause-held c =
    let is : slice_get c.args.rows.now c.loop-place.place ≡ Some c.index-rows-place.result = slice_get_read c.args.rows.now (length c.args.rows.now) c.loop-place.place c.index-rows-place.result refl c.loop-place-test.true c.index-rows-place.is in
    let end = rw c.in-Ok-Point.field-0-is at c.in-Ok-Point.ensures.end in (
      record {
        row = c.index-rows-place.result;
        is = is;
        fails = (fails_where c.cell_theorems.ensures c.args.qp.now c.args.cell.now.rows.items c.index-rows-place.result).1 end.0;
        before = c.loop-place.invariant.none;
        fits = holds_fit c.args.qp.now c.args.cell.now.rows.items c.args.rows.now c.loop-place.place c.index-rows-place.result is c.loop-place.invariant.fits c.in-Ok-Point.ensures.wide;
      },
      side_run c.args.qp.now c.args.cell.now.rows.items c.index-rows-place.result c.in-Ok-Point.run' end.1,
    )

pub returns-in-Err-Wide-clause-wide : goal.returns-in-Err-Wide-clause-wide
returns-in-Err-Wide-clause-wide c =
    let is : slice_get c.args.rows.now c.loop-place.place ≡ Some c.index-rows-place.result = slice_get_read c.args.rows.now (length c.args.rows.now) c.loop-place.place c.index-rows-place.result refl c.loop-place-test.true c.index-rows-place.is in
    (c.loop-place.place + 1, refl, holds_wide c.args.qp.now c.args.cell.now.rows.items c.args.rows.now c.loop-place.place c.index-rows-place.result is c.loop-place.invariant.none c.loop-place.invariant.fits (rw c.in-Err-Wide.field-0-is at c.in-Err-Wide.ensures.wide))

pub loop-place-preserved : goal.loop-place-preserved
loop-place-preserved c =
    let is : slice_get c.args.rows.now c.loop-place.place ≡ Some c.index-rows-place.result = slice_get_read c.args.rows.now (length c.args.rows.now) c.loop-place.place c.index-rows-place.result refl c.loop-place-test.true c.index-rows-place.is in
    let end = rw c.in-Ok-Refuted.field-0-is at c.in-Ok-Refuted.ensures.end in
    record {
      none = fails_none c.args.qp.now c.args.cell.now.rows.items c.args.rows.now c.loop-place.place c.index-rows-place.result is c.loop-place.invariant.none (λ f. end.0 ((fails_where c.cell_theorems.ensures c.args.qp.now c.args.cell.now.rows.items c.index-rows-place.result).0 f));
      certs_are = further_more c.args.qp.now c.args.cell.now.rows.items c.args.rows.now c.args.met.held c.loop-place.place c.index-rows-place.result (omega arith) is c.loop-place.certs c.push.new.self c.in-Ok-Refuted.cert c.loop-place.invariant.certs_are end.1 c.in_ok-push-in-Ok-Refuted.ensures.ok;
      fits = holds_fit c.args.qp.now c.args.cell.now.rows.items c.args.rows.now c.loop-place.place c.index-rows-place.result is c.loop-place.invariant.fits c.in-Ok-Refuted.ensures.wide;
      opened = c.in-Ok-Refuted.ensures.open;
    }

pub returns-clause-held : goal.returns-clause-held
returns-clause-held c =
    let within = c.requires.left_out.within in
    let all : c.loop-place.place ≡ length c.args.rows.now = omega (arith, within) in
    record {
      none = subst (NoneFailsBefore c.args.qp.now c.args.rows.now c.args.cell.now.rows.items) all c.loop-place.invariant.none;
      certs_are = subst (λ n. AreCertsOf c.args.qp.now c.args.cell.now.rows.items (drop c.args.met.held c.args.rows.now) (n - c.args.met.held) c.loop-place.certs) all c.loop-place.invariant.certs_are;
      fits = subst (HoldsFit c.args.qp.now c.args.cell.now.rows.items c.args.rows.now) all c.loop-place.invariant.fits;
    }
