use Rattle.std.proofs.Common.{◌≡◌, ◌++◌, IfOk, IfSome, sym, subst, ap, ◌∙◌}
use Rattle.mpc_rows.specs.SetRuns.{box_rows}
use Rattle.mpc_tree.specs.Joints.{joint_width}
use Rattle.mpc_tree.proofs.JointRuns.{box_alone}
use Rattle.mpc_tree.proofs.joints.box_run.Goals as goal

pub returns : goal.returns
returns c =
    let s = c.push_box.new.system in
    let counts = c.args.qp.now.counts in
    let width : s.width ≡ joint_width c.args.qp.now = cc in
    let rows : s.rows ≡ box_rows s.width counts = c.in_ok-push_box.ensures.rows ∙ ap (λ rs. rs ++ box_rows c.new-system.result.width counts) c.new-system.ensures.rows ∙ ap (λ w. box_rows w counts) (sym c.in_ok-push_box.ensures.width) in
    subst (λ z. IfOk c.begin.result (λ o. IfSome o (λ b. b ≡ z))) (box_alone c.args.qp.now s width rows) c.begin.ensures
