use Rattle.std.proofs.Common.{◌≡◌, ◌≤◌, true, false, get_or, length, refl, sym, subst, arith}
use Rattle.std.proofs.lemmas.List.{length-map}
use Rattle.mpc_rows.specs.LinearSystem.{height}
use Rattle.mpc_systems.specs.Systems.{hold_system}
use Rattle.mpc_check.specs.Certs.{HasPositionsIn, IsPositionIn}
use Rattle.mpc_check.specs.Picks.{picked_rows, weights}
use Rattle.mpc_controller.specs.Ways.{way_rows}
use Rattle.mpc_check.proofs.ColumnSums.{weight_at, picked_at, strict_found, none_more, none_at_all}
use Rattle.mpc_check.proofs.WholeRows.{held_count}
use Rattle.mpc_check.proofs.whole_sums.weighs_strict.Goals as goal

different : false ≡ true → ⊥
different e = cc

pub counts_as_strict-requires : goal.counts_as_strict-requires
counts_as_strict-requires c =
    let s = hold_system c.args.qp.now (way_rows c.args.tree.now c.args.way.now) c.args.row.now in
    let p : IsPositionIn (height s) (get_or c.as_slice-entries.result.now c.loop-at_entry.at_entry c.index-entries-at_entry.result) = subst (HasPositionsIn (height s)) (sym c.as_slice-entries.ensures.value) c.requires.positions c.loop-at_entry.at_entry c.index-entries-at_entry.result c.loop-at_entry-test.true in
    let low = p.from_one in
    let high = p.to_last in
    omega (arith, low, high, held_count c.args.qp.now c.args.tree.now c.args.way.now c.args.row.now 0)

pub returns-then-counts_as_strict : goal.returns-then-counts_as_strict
returns-then-counts_as_strict c =
    let s = hold_system c.args.qp.now (way_rows c.args.tree.now c.args.way.now) c.args.row.now in
    let entries = c.as_slice-entries.result.now in
    let i = c.loop-at_entry.at_entry in (
      λ _. strict_found (picked_rows s.rows c.args.cert.now) (weights c.args.cert.now) i _ _
          (picked_at s c.args.cert.now entries c.as_slice-entries.ensures.value i c.index-entries-at_entry.result c.loop-at_entry-test.true) (weight_at s c.args.cert.now entries c.as_slice-entries.ensures.value i c.index-entries-at_entry-in-loop-at_entry.result c.loop-at_entry-test.true)
          ((c.if-counts_as_strict.ensures c.args.tree.now c.args.row.now).0 refl),
      λ _. refl,
    )

pub loop-at_entry-preserved : goal.loop-at_entry-preserved
loop-at_entry-preserved c =
    let s = hold_system c.args.qp.now (way_rows c.args.tree.now c.args.way.now) c.args.row.now in
    let entries = c.as_slice-entries.result.now in
    let i = c.loop-at_entry.at_entry in
    none_more (picked_rows s.rows c.args.cert.now) (weights c.args.cert.now) i _ _
    (picked_at s c.args.cert.now entries c.as_slice-entries.ensures.value i c.index-entries-at_entry.result c.loop-at_entry-test.true) (weight_at s c.args.cert.now entries c.as_slice-entries.ensures.value i c.index-entries-at_entry-in-loop-at_entry.result c.loop-at_entry-test.true)
    (λ h. different ((c.if-counts_as_strict.ensures c.args.tree.now c.args.row.now).1 h)) c.loop-at_entry.invariant

pub returns : goal.returns
returns c =
    let s = hold_system c.args.qp.now (way_rows c.args.tree.now c.args.way.now) c.args.row.now in
    let rows = picked_rows s.rows c.args.cert.now in
    let past : length rows ≤ c.loop-at_entry.at_entry = subst (λ n. n ≤ c.loop-at_entry.at_entry) (sym (length-map c.args.cert.now _)) (subst (λ (e : _). length e ≤ c.loop-at_entry.at_entry) c.as_slice-entries.ensures.value c.loop-at_entry-test.false) in
    (λ t. absurd (different t), λ w. absurd (none_at_all rows (weights c.args.cert.now) c.loop-at_entry.at_entry past c.loop-at_entry.invariant w))
