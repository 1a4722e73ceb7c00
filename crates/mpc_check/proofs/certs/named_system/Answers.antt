use Rattle.std.proofs.Common.{◌-◌, ◌<◌, ap, get_or, length, sym, ◌∙◌, subst, arith, All}
use Rattle.std.proofs.lemmas.List.Elements.{All-get_or}
use Rattle.mpc_rows.specs.LinearSystem.{height, no_row}
use Rattle.mpc_check.specs.Certs.{HasPositionsIn, IsPositionIn}
use Rattle.mpc_check.specs.LeafSystems.{system_at}
use Rattle.mpc_check.specs.Widths.{IsOfWidth}
use Rattle.mpc_check.proofs.CertLemmas.{system_count}
use Rattle.mpc_check.proofs.SplitRows.{system_rows_wide}
use Rattle.mpc_check.proofs.certs.named_system.Goals as goal

pub system_row-requires-clause-place : goal.system_row-requires-clause-place
system_row-requires-clause-place c =
    let s = system_at c.args.qp.now c.args.cell.now.tree.now c.args.cell.now.way.now c.args.more c.args.last.now in
    let p : IsPositionIn (height s) (get_or c.as_slice-entries.result.now c.loop-i.i c.index-entries-i.result) = subst (HasPositionsIn (height s)) (sym c.as_slice-entries.ensures.value) c.requires.positions c.loop-i.i c.index-entries-i.result c.loop-i-test.true in
    let low = p.from_one in
    let high = p.to_last in
    omega (arith, low, high, system_count c.args.qp.now c.args.cell.now.tree.now c.args.cell.now.way.now c.args.more c.args.last.now)

pub push-requires : goal.push-requires
push-requires c =
    let s = system_at c.args.qp.now c.args.cell.now.tree.now c.args.cell.now.way.now c.args.more c.args.last.now in
    let p : IsPositionIn (height s) (get_or c.as_slice-entries.result.now c.loop-i.i c.index-entries-i.result) = subst (HasPositionsIn (height s)) (sym c.as_slice-entries.ensures.value) c.requires.positions c.loop-i.i c.index-entries-i.result c.loop-i-test.true in
    let low = p.from_one in
    let high = p.to_last in
    let inside : (get_or c.as_slice-entries.result.now c.loop-i.i c.index-entries-i.result).0 - 1 < height s = omega (arith, low, high) in
    let wide : All (IsOfWidth s.width) s.rows = system_rows_wide c.args.qp.now c.args.cell.now.tree.now c.args.cell.now.way.now c.args.more c.args.last.now c.requires.way c.requires.splits c.requires.last in
    ap (λ r. length r.a) c.in_ok-row.ensures ∙ All-get_or (IsOfWidth s.width) s.rows ((get_or c.as_slice-entries.result.now c.loop-i.i c.index-entries-i.result).0 - 1) no_row inside wide ∙ sym c.loop-i.invariant.width
