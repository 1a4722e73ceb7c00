use Rattle.std.proofs.Common.{◌≡◌, ◌+◌, arith, rules, length}
use Rattle.mpc_space.specs.Matrix.{height}
use Rattle.mpc_rows.specs.SetRuns.{law_entry, law_matrix}
use Rattle.mpc_systems.proofs.equations.law_matrix.Goals as goal

pub returns : goal.returns
unfolding law_matrix
returns c =
    let size : height c.args.qp.now.h + length c.args.set ≡ c.rows.result + c.size.result = omega (arith, c.rows.ensures.value, c.size.ensures.value) in
    rw size (c.matrix_of.ensures (law_entry c.args.qp.now c.args.set) (λ i j h k x p. search rules))
