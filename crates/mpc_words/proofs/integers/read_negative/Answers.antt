use Rattle.mpc_words.proofs.IntegerLemmas.{none_behind_minus, no_minus_zero, minus_spelled, negative_back}
use Rattle.mpc_words.proofs.integers.read_negative.Goals as goal

pub returns-in_err-size : goal.returns-in_err-size
returns-in_err-size c = none_behind_minus c.args.size.now c.from_residual.result c.from_residual.ensures c.in_err-size.ensures

pub returns-then-size-eq0 : goal.returns-then-size-eq0
returns-then-size-eq0 c = no_minus_zero c.args.size.now c.in_ok-size.size c.in_ok-size.ensures c.if-size-eq0.true

pub returns : goal.returns
returns c =
    minus_spelled c.args.size.now c.in_ok-size.size _ c.in_ok-size.ensures c.if-size-eq0.false (negative_back c.in_ok-size.size c.negative.result c.in_ok-size.ensures.below c.negative.ensures)
