use Rattle.std.proofs.Common.{◌≡◌, ◌++◌, ◌∷◌, [], length, sym, subst, ap, ◌∙◌, arith}
use Rattle.std.proofs.lemmas.List.{length-append}
use Rattle.mpc_space.specs.Matrix.{height}
use Rattle.mpc_systems.specs.Writing.{widened}
use Rattle.mpc_tree.specs.Joints.{AreRunsOf, IsJointRun}
use Rattle.mpc_tree.proofs.JointRuns.{last_run, wide_fits, narrowed, row_more, run_more}
use Rattle.mpc_tree.proofs.joints.Joints.push.Goals as goal
use Rattle.mpc_tree.proofs.joints.Joints.push.Goals.{After-wide-2-1}

of_cell : (c : After-wide-2-1) → IsJointRun c.args.qp.now c.args.self.now.cell.items c.index.result.now
of_cell c = last_run c.args.qp.now c.args.self.now.cell.items c.args.self.now.runs.items c.requires.joints.runs c.requires.runs c.index.result.now c.len.result (omega (arith, c.args.self.now.cell.ok.0)) c.index.ensures

is_wide : (c : After-wide-2-1) → c.in_ok-wide.wide ≡ widened (height c.args.qp.now.h) c.args.row.now
is_wide c = c.in_ok-wide.ensures ∙ ap (λ n. widened n c.args.row.now) c.rows.ensures.value

pub longer-requires : goal.longer-requires
longer-requires c = wide_fits c.args.qp.now c.args.self.now.cell.items c.index.result.now (of_cell c) c.args.row.now c.in_ok-wide.wide (is_wide c) c.requires.width

pub returns-in_default-push-clause-joints : goal.returns-in_default-push-clause-joints
returns-in_default-push-clause-joints c =
    let qp = c.args.qp.now in
    let runs = c.args.self.now.runs.items in
    let cell : c.push.new.self.items ≡ c.args.self.now.cell.items ++ c.args.row.now ∷ [] = c.in-Ok.ensures.items ∙ ap (λ r. c.args.self.now.cell.items ++ r ∷ []) c.in_ok-copy.ensures in
    let are : AreRunsOf qp c.push.new.self.items runs = subst (λ rows. AreRunsOf qp rows runs) (sym cell) (row_more qp c.args.self.now.cell.items runs c.requires.joints.runs c.args.row.now) in
    record {
      rows = c.requires.joints.rows;
      runs = subst (AreRunsOf qp c.push.new.self.items) (sym c.in_default-push.ensures.items) are;
    }

pub returns-clause-joints : goal.returns-clause-joints
returns-clause-joints c =
    let d = (goal.at.returns-clause-joints c).After-wide-2-1 in
    let qp = c.args.qp.now in
    let runs = c.args.self.now.runs.items in
    let cell : c.push.new.self.items ≡ c.args.self.now.cell.items ++ c.args.row.now ∷ [] = c.in-Ok.ensures.items ∙ ap (λ r. c.args.self.now.cell.items ++ r ∷ []) c.in_ok-copy.ensures in
    let are : AreRunsOf qp c.push.new.self.items runs = subst (λ rows. AreRunsOf qp rows runs) (sym cell) (row_more qp c.args.self.now.cell.items runs c.requires.joints.runs c.args.row.now) in
    let size : length runs ≡ length c.push.new.self.items = omega (arith, ap length cell, length-append c.args.self.now.cell.items (c.args.row.now ∷ []), c.requires.runs) in
    let run : IsJointRun qp c.push.new.self.items c.in_ok-run.run' = subst (λ rows. IsJointRun qp rows c.in_ok-run.run') (sym cell) (narrowed qp c.args.self.now.cell.items c.index.result.now (of_cell d) c.args.row.now c.in_ok-wide.wide (is_wide d) c.in_ok-run.run' c.in_ok-run.ensures) in
    record {
      rows = c.requires.joints.rows;
      runs = subst (AreRunsOf qp c.push.new.self.items) (sym c.in-Ok-push.ensures.items) (run_more qp c.push.new.self.items runs are c.in_ok-run.run' size run);
    }
