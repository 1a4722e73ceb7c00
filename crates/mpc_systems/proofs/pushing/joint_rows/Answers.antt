use Rattle.std.proofs.Common.{◌∙◌, sym, ◌++◌, ◌∷◌, [], arith}
use Rattle.mpc_rows.specs.SetRuns.{joint_row}
use Rattle.mpc_systems.proofs.RowWriting.{joint_more}
use Rattle.mpc_systems.proofs.pushing.joint_rows.Goals as goal

pub loop-at_row-preserved : goal.loop-at_row-preserved
loop-at_row-preserved c =
    c.in_ok-push.ensures.ok ∙ (λ t. c.loop-at_row.invariant t ++ c.in_ok-joint_row.ensures.row t ∷ []) ∙ sym (joint_more (joint_row c.args.qp.now) c.loop-at_row.at_row (omega arith))
