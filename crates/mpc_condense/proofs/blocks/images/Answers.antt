use Rattle.std.proofs.Common.{◌+◌, arith, ap, subst}
use Rattle.mpc_space.specs.Vector.{dot}
use Rattle.mpc_space.specs.Matrix.{height}
use Rattle.mpc_linear.specs.Dot.{DotFits}
use Rattle.mpc_condense.specs.Blocks.{row_at}
use Rattle.mpc_condense.proofs.Writing.{writes_row_as, writes_to, all_row_as, all_to}
use Rattle.mpc_condense.proofs.blocks.images.Goals as goal

pub loop-at_row-preserved : goal.loop-at_row-preserved
loop-at_row-preserved c =
    let a = c.loop-at_row.at_row in
    let n = height c.args.matrix.now in
    let w = writes_to c.loop-at_row.out c.write_dots.new.out a (a + 1) 0 c.rows-size.result (a + 1) n _ (omega arith) c.rows-size.ensures.value c.in_ok-write_dots.ensures.ok in
    let x = all_to a (a + 1) 0 c.rows-size.result (a + 1) n _ (omega arith) c.rows-size.ensures.value c.in_ok-write_dots.ensures.wide in
    record {
      written = writes_row_as _ c.loop-at_row.out c.write_dots.new.out 0 a (a + 1) 0 n _ _ (omega arith) (omega arith) c.loop-at_row.invariant.written w (λ b _ _. ap (dot (row_at c.args.matrix.now b)) c.row.ensures);
      fits = all_row_as 0 a (a + 1) 0 n _ _ (omega arith) (λ b _ _ h. subst (DotFits (row_at c.args.matrix.now b)) c.row.ensures h) x c.loop-at_row.invariant.fits;
    }
