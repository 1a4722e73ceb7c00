use Rattle.std.proofs.Common.{length, arith}
use Rattle.mpc_whole.proofs.WholeExchange.{row_inside}
use Rattle.mpc_whole.proofs.judge.column_top.Goals as goal

pub overflow_mul-unknown : goal.overflow_mul-unknown
overflow_mul-unknown c = let r = row_inside c.args.width c.loop-unknown.unknown c.args.column (length c.args.numbers.now) c.requires.square c.loop-unknown-test.true c.requires.column in omega arith

pub overflow_add-unknown : goal.overflow_add-unknown
overflow_add-unknown c = let r = row_inside c.args.width c.loop-unknown.unknown c.args.column (length c.args.numbers.now) c.requires.square c.loop-unknown-test.true c.requires.column in omega arith

pub offset_bounds-numbers-unknown : goal.offset_bounds-numbers-unknown
offset_bounds-numbers-unknown c = let r = row_inside c.args.width c.loop-unknown.unknown c.args.column (length c.args.numbers.now) c.requires.square c.loop-unknown-test.true c.requires.column in omega arith

pub bounds-numbers-unknown : goal.bounds-numbers-unknown
bounds-numbers-unknown c = row_inside c.args.width c.loop-unknown.unknown c.args.column (length c.args.numbers.now) c.requires.square c.loop-unknown-test.true c.requires.column
