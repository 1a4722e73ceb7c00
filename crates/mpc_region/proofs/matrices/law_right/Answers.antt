use Rattle.std.proofs.Common.{◌≡◌, ◌+◌, ◌∙◌, sym, arith, rules, length}
use Rattle.mpc_space.specs.Matrix.{height}
use Rattle.mpc_rows.specs.SetRuns.{law_side, law_right}
use Rattle.mpc_region.proofs.matrices.law_right.Goals as goal

pub returns : goal.returns
unfolding law_right
returns c =
    let rows : height c.args.qp.now.h + length c.args.set ≡ c.rows.result + c.size.result = omega (arith, c.rows.ensures.value, c.size.ensures.value) in
    let columns : length c.args.qp.now.counts + 1 ≡ c.cols.result = sym (c.cols.ensures.value ∙ c.args.qp.now.is_program.f_shape.columns_are) in
    rw rows (rw columns (c.matrix_of.ensures (law_side c.args.qp.now c.args.set) (λ i j h k x p. search rules)))
