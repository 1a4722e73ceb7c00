use Rattle.std.proofs.Common.{◌-◌, ◌<◌, [], ◌++◌, negsuc, length, ap, ◌∙◌, arith}
use Rattle.mpc_exact.specs.Rational.{int}
use Rattle.mpc_space.specs.Vector.{vec_scale}
use Rattle.mpc_space.specs.Matrix.{height}
use Rattle.mpc_systems.proofs.RowWriting.{rest_taken}
use Rattle.mpc_systems.proofs.SystemRows.{joint_size}
use Rattle.mpc_systems.proofs.single_rows.joint_row.Goals as goal

pub returns-clause-size : goal.returns-clause-size
returns-clause-size c =
    let w = c.args.qp.now.is_program.w_shape in
    let g = c.args.qp.now.is_program.g_shape in
    let i = c.args.at_row - 1 in
    let in_w : i < length c.args.qp.now.w.rows = omega (arith, w.rows_are, c.requires.from_one, c.requires.to_last) in
    let in_g : i < length c.args.qp.now.g.rows = omega (arith, c.requires.from_one, c.requires.to_last) in
    joint_size c.row-right.result.now c.row-left.result.now c.push_negatives.new.out c.push_entries.new.out (length c.args.qp.now.counts) (height c.args.qp.now.h) (c.in_ok-push_negatives.ensures.entries ∙ (λ t. c.in_ok-coefficients.ensures.empty t ++ vec_scale (int (negsuc 0)) (rest_taken c.row-right.result.now t))) c.in_ok-push_entries.ensures.entries
    (ap length c.row-right.ensures ∙ w.rectangular i [] in_w ∙ w.columns_are)
    (ap length c.row-left.ensures ∙ g.rectangular i [] in_g ∙ g.columns_are)
