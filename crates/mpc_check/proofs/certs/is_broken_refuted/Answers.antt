use Rattle.std.proofs.Common.{◌≡◌, ◌+◌, [], ◌∷◌, ◌++◌, Ok, true, false, length, sym, ◌∙◌, subst, arith, All}
use Rattle.mpc_rows.specs.LawRows.{broken_row}
use Rattle.mpc_rows.specs.LinearSystem.{height}
use Rattle.mpc_systems.specs.Systems.{hold_system}
use Rattle.mpc_check.specs.Certs.{HasPositionsIn}
use Rattle.mpc_check.specs.Picks.{picked_system, weights}
use Rattle.mpc_controller.specs.Ways.{way_rows}
use Rattle.mpc_check.specs.LeafSystems.{system_at}
use Rattle.mpc_check.specs.Widths.{IsOfWidth}
use Rattle.mpc_check.proofs.CertLemmas.{decided_sums, decided_whole, outside_fits, outside_fails}
use Rattle.mpc_check.proofs.LeafLemmas.{plain_system, decided_there}
use Rattle.mpc_check.proofs.RowWidths.{broken_wide, one_wide}
use Rattle.mpc_check.proofs.WholeRows.{held_count}
use Rattle.mpc_check.proofs.certs.is_broken_refuted.Goals as goal

pub returns-then-not-has_positions_in : goal.returns-then-not-has_positions_in
returns-then-not-has_positions_in c =
    let s = hold_system c.args.qp.now (way_rows c.args.cell.now.tree.now c.args.cell.now.way.now) c.args.row.now in
    let count = held_count c.args.qp.now c.args.cell.now.tree.now c.args.cell.now.way.now c.args.row.now 0 in
    let out : ¬ HasPositionsIn (height s) c.args.cert.now = λ w. different (sym c.if-not-has_positions_in.true ∙ c.has_positions_in.ensures.within.1 (subst (λ n. HasPositionsIn n c.args.cert.now) (omega (arith, count, c.len.ensures)) w)) in
    (outside_fits s c.args.cert.now out, outside_fails s c.args.cert.now out)
  where
    different : false ≡ true → ⊥
    different e = cc

pub is_refuted_in_wholes-requires-clause-positions : goal.is_refuted_in_wholes-requires-clause-positions
is_refuted_in_wholes-requires-clause-positions c =
    let count = held_count c.args.qp.now c.args.cell.now.tree.now c.args.cell.now.way.now c.args.row.now 0 in
    subst (λ n. HasPositionsIn n c.args.cert.now) (omega (arith, count, c.len.ensures)) (c.has_positions_in.ensures.within.0 c.if-not-has_positions_in.false)

pub returns-in-Some : goal.returns-in-Some
returns-in-Some c =
    let s = hold_system c.args.qp.now (way_rows c.args.cell.now.tree.now c.args.cell.now.way.now) c.args.row.now in
    let count = held_count c.args.qp.now c.args.cell.now.tree.now c.args.cell.now.way.now c.args.row.now 0 in
    let within : HasPositionsIn (height s) c.args.cert.now = subst (λ n. HasPositionsIn n c.args.cert.now) (omega (arith, count, c.len.ensures)) (c.has_positions_in.ensures.within.0 c.if-not-has_positions_in.false) in
    decided_whole c.zero_theorems.ensures c.fit_theorems.ensures s c.args.cert.now c.has_positions_in.ensures.rises within c.args.place (Ok c.in-Some.yes)
    (decided_sums (picked_system s c.args.cert.now) (weights c.args.cert.now) c.args.place c.in-Some.yes c.in-Some.ensures.answer (λ wide. wide.1 c.in-Some.ensures.fits))

pub is_refuted-requires-clause-last : goal.is_refuted-requires-clause-last
is_refuted-requires-clause-last c =
    let last : c.as_slice.result.now ≡ broken_row c.args.row.now ∷ [] = c.as_slice.ensures ∙ c.in_ok-push.ensures.ok ∙ (λ t. c.new-last.ensures t ++ c.in_ok-broken_row.ensures t ∷ []) in
    let width : length c.args.qp.now.counts ≡ length c.args.qp.now.counts + 0 = omega arith in
    subst (λ rows. All (IsOfWidth (length c.args.qp.now.counts + 0)) rows) (sym last)
    (one_wide (length c.args.qp.now.counts + 0) (broken_row c.args.row.now) (broken_wide c.args.row.now (length c.args.qp.now.counts + 0) (c.requires.size.size ∙ width)))

pub returns : goal.returns
returns c =
    let last : c.as_slice.result.now ≡ broken_row c.args.row.now ∷ [] = c.as_slice.ensures ∙ c.in_ok-push.ensures.ok ∙ (λ t. c.new-last.ensures t ++ c.in_ok-broken_row.ensures t ∷ []) in
    let path = way_rows c.args.cell.now.tree.now c.args.cell.now.way.now in
    decided_there (system_at c.args.qp.now c.args.cell.now.tree.now c.args.cell.now.way.now 0 c.as_slice.result.now) (hold_system c.args.qp.now path c.args.row.now) (plain_system c.args.qp.now c.args.cell.now.tree.now c.args.cell.now.way.now c.args.row.now c.as_slice.result.now last) c.args.cert.now _ c.is_refuted.result c.is_refuted.ensures
