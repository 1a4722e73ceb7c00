use Rattle.std.proofs.Common.{◌≡◌, ◌+◌, arith, rules, length}
use Rattle.mpc_space.specs.Matrix.{height}
use Rattle.mpc_online.specs.Positions.{step_side}
use Rattle.mpc_online.proofs.matrices.step_right.Goals as goal

pub returns : goal.returns
returns c =
    let size : height c.args.qp.now.h + length c.args.set ≡ c.rows.result + c.size.result = omega (arith, c.rows.ensures.value, c.size.ensures.value) in
    rw size (c.matrix_of.ensures (λ i j. step_side c.args.qp.now c.args.row_number i) (λ i j h k x p. search rules))
