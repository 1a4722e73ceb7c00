use Rattle.std.proofs.Common.{◌≡◌, ◌+◌, arith, rules}
use Rattle.mpc_space.specs.Matrix.{height}
use Rattle.mpc_online.specs.Shared.{shared_entry, shared_table}
use Rattle.mpc_online.proofs.shared.shared_table.Goals as goal

pub returns : goal.returns
unfolding shared_table
returns c =
    let columns : height c.args.qp.now.h + height c.args.qp.now.g + height c.args.qp.now.g ≡ c.rows.result + c.rows-2.result + c.rows-3.result = omega arith in
    let rows : height c.args.qp.now.h + height c.args.qp.now.g ≡ c.rows.result + c.rows-2.result = omega arith in
    rw columns (rw rows (c.matrix_of.ensures (shared_entry c.args.qp.now) (λ i j h k x p. search rules)))
