use Rattle.std.proofs.Common.{◌∙◌, ap, sym, ◌-◌, map, ◌++◌, ◌∷◌, [], arith}
use Rattle.std.specs.List.{range_with_len}
use Rattle.mpc_rows.specs.SetRuns.{joint_row}
use Rattle.mpc_systems.proofs.RowWriting.{joint_more, pushed}
use Rattle.mpc_systems.proofs.pushing.add_joint_rows.Goals as goal

pub loop-at_row-preserved : goal.loop-at_row-preserved
loop-at_row-preserved c = record {
  width = c.push.ensures.width ∙ c.loop-at_row.invariant.width;
  rows = pushed c.args.system.now.rows c.loop-at_row.system.rows c.push.new.self.rows (map (joint_row c.args.qp.now) (range_with_len 1 (c.loop-at_row.at_row - 1))) _ c.in_ok-joint_row.field-0 c.loop-at_row.invariant.rows c.in_ok-push.ensures.ok
      (joint_more (joint_row c.args.qp.now) c.loop-at_row.at_row (omega arith) ∙ ap (λ r. map (joint_row c.args.qp.now) (range_with_len 1 (c.loop-at_row.at_row - 1)) ++ r ∷ []) (sym c.in_ok-joint_row.ensures.row));
}
