use Rattle.std.proofs.Common.{◌≡◌, ◌+◌, ◌∙◌, length, sym, below_more, arith}
use Rattle.mpc_check.specs.WholeLaws.{ColumnMet}
use Rattle.mpc_check.proofs.whole_laws.is_met_in_wholes.Goals as goal

pub loop-at_column-preserved : goal.loop-at_column-preserved
loop-at_column-preserved c = below_more (ColumnMet c.args.qp.now c.args.law.now) c.loop-at_column.at_column c.loop-at_column.invariant (c.is_column_met.ensures c.if-not-is_column_met.false)

pub returns : goal.returns
returns c t =
    let all : length c.args.qp.now.counts + 1 ≡ c.cols-at_column-end.result = sym (c.cols-at_column-end.ensures.value ∙ c.args.qp.now.is_program.f_shape.columns_are) in
    record {
      stationary = λ r line k h. (c.loop-at_column.invariant k (omega (arith, all, h, c.loop-at_column-test.false))).stationary r line;
      active = λ j within k h. (c.loop-at_column.invariant k (omega (arith, all, h, c.loop-at_column-test.false))).active j within;
    }
