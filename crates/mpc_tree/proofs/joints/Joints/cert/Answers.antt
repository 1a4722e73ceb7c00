use Rattle.std.proofs.Common.{◌≡◌, Some, IfOk, IfSome, length, sym, subst, ap, ◌∙◌}
use Rattle.mpc_beginnings.specs.Beginnings.{lengthened}
use Rattle.mpc_rows.specs.RunWidth.{RunFits}
use Rattle.mpc_systems.specs.Systems.{joint_system}
use Rattle.mpc_tree.specs.LeafCerts.{IsCertOf}
use Rattle.mpc_tree.specs.Joints.{joint_cell, IsJointRun, AreProgramRows}
use Rattle.mpc_tree.proofs.JointRuns.{last_run, behind_width, behind_rows}
use Rattle.mpc_tree.proofs.joints.Joints.cert.Goals as goal
use Rattle.mpc_tree.proofs.joints.Joints.cert.Goals.{In-Some-index}

of_cell : (c : In-Some-index) → c.in-Some-index.run' ≡ joint_cell c.args.qp.now c.go_on.new.self.cell.items
of_cell c =
    let last = c.go_on.new.self in
    subst (λ o. IsJointRun c.args.qp.now last.cell.items o) c.in-Some-index.is (last_run c.args.qp.now last.cell.items last.runs.items c.go_on.ensures.joints.runs c.in_ok-go_on.ensures.runs c.index.result.now _ (ap length (sym c.in_ok-go_on.ensures.cell)) c.index.ensures)

own_rows : (c : In-Some-index) → AreProgramRows c.args.qp.now (Some c.in-Some.rows)
own_rows c = subst (AreProgramRows c.args.qp.now) c.in-Some.is c.go_on.ensures.joints.rows

system_is : (c : In-Some-index) → lengthened c.in-Some-index.run' c.in-Some.rows.rows ≡ joint_system c.args.qp.now c.args.cell.now
system_is c = behind_rows c.args.qp.now c.go_on.new.self.cell.items c.in-Some-index.run' (of_cell c) c.in-Some.rows (own_rows c) ∙ ap (joint_system c.args.qp.now) c.in_ok-go_on.ensures.cell

pub refuted_cert-requires-clause-width : goal.refuted_cert-requires-clause-width
refuted_cert-requires-clause-width c =
    let d = (goal.at.refuted_cert-requires-clause-width c).In-Some-index in
    behind_width c.args.qp.now c.go_on.new.self.cell.items c.in-Some-index.run' (of_cell d) c.in-Some.rows (own_rows d)

pub returns-clause-cert : goal.returns-clause-cert
returns-clause-cert c = subst (λ s. IfOk c.refuted_cert.result (λ o. IfSome o (IsCertOf s))) (system_is (goal.at.returns-clause-cert c).In-Some-index) c.refuted_cert.ensures.cert

pub returns-clause-fits : goal.returns-clause-fits
returns-clause-fits c = subst (λ s. IfOk c.refuted_cert.result (λ o. IfSome o (λ _. RunFits s))) (system_is (goal.at.returns-clause-fits c).In-Some-index) c.refuted_cert.ensures.fits
