use Rattle.std.proofs.Common.{◌∙◌, ap, arith}
use Rattle.mpc_exact.specs.Rational.{neg_ℚ}
use Rattle.mpc_bordered.specs.Stages.{IsOpposite}
use Rattle.mpc_bordered.proofs.RowWriting.{filling_more}
use Rattle.mpc_bordered.proofs.stages.write_opposite.Goals as goal

pub loop-column-preserved : goal.loop-column-preserved
loop-column-preserved c =
    filling_more (IsOpposite c.args.columns.now c.args.row) c.args.out.now c.loop-column.out c.set.new.self c.args.row c.loop-column.column c.neg-number.result
    c.set.ensures (omega (arith, c.requires.rows, c.requires.row)) (omega (arith, c.loop-column-test.true, c.cols-column-end.ensures.value))
    (record { value = c.neg-number.ensures ∙ ap neg_ℚ c.get.ensures; fits = c.num-fits.ensures.fits }) c.loop-column.invariant
