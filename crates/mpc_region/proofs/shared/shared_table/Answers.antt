use Rattle.std.proofs.Common.{◌≡◌, ◌+◌, ◌∙◌, sym, arith, rules, length}
use Rattle.mpc_space.specs.Matrix.{height}
use Rattle.mpc_region.specs.Shared.{shared_entry, shared_table}
use Rattle.mpc_region.proofs.shared.shared_table.Goals as goal

pub returns : goal.returns
unfolding shared_table
returns c =
    let rows : height c.args.qp.now.h + height c.args.qp.now.g ≡ c.rows.result + c.rows-2.result = omega (arith, c.rows.ensures.value, c.rows-2.ensures.value) in
    let columns : length c.args.qp.now.counts + 1 ≡ c.cols.result = sym (c.cols.ensures.value ∙ c.args.qp.now.is_program.f_shape.columns_are) in
    rw rows (rw columns (c.matrix_of.ensures (shared_entry c.args.qp.now) (λ i j h k x p. search rules)))
