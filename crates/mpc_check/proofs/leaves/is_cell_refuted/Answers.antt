use Rattle.std.proofs.Common.{◌≡◌, ◌+◌, length, sym, ◌∙◌, subst, All}
use Rattle.mpc_space.specs.Matrix.{height}
use Rattle.mpc_rows.specs.SetRuns.{joint_rows}
use Rattle.mpc_systems.specs.Systems.{joint_system}
use Rattle.mpc_controller.specs.Ways.{way_rows}
use Rattle.mpc_check.specs.LeafSystems.{system_at}
use Rattle.mpc_check.specs.Widths.{IsOfWidth}
use Rattle.mpc_check.proofs.RowWidths.{joint_rows_wide}
use Rattle.mpc_check.proofs.LeafLemmas.{whole_system, decided_there}
use Rattle.mpc_check.proofs.leaves.is_cell_refuted.Goals as goal

pub is_refuted-requires-clause-last : goal.is_refuted-requires-clause-last
is_refuted-requires-clause-last c =
    let last : c.as_slice.result.now ≡ joint_rows c.args.qp.now = c.as_slice.ensures ∙ c.in_ok-last.ensures in
    subst (λ u. All (IsOfWidth (length c.args.qp.now.counts + u)) c.as_slice.result.now) (sym c.rows-unknowns.ensures.value)
    (subst (λ rows. All (IsOfWidth (length c.args.qp.now.counts + height c.args.qp.now.h)) rows) (sym last) (joint_rows_wide c.cell_theorems.ensures.joint_width c.args.qp.now))

pub returns : goal.returns
returns c =
    let last : c.as_slice.result.now ≡ joint_rows c.args.qp.now = c.as_slice.ensures ∙ c.in_ok-last.ensures in
    decided_there (system_at c.args.qp.now c.args.cell.now.tree.now c.args.cell.now.way.now c.rows-unknowns.result c.as_slice.result.now) (joint_system c.args.qp.now (way_rows c.args.cell.now.tree.now c.args.cell.now.way.now))
    (whole_system c.args.qp.now c.args.cell.now.tree.now c.args.cell.now.way.now c.rows-unknowns.result c.as_slice.result.now c.rows-unknowns.ensures.value last) c.args.cert.now _ c.is_refuted.result c.is_refuted.ensures
