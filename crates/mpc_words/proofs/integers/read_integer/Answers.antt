use Rattle.std.specs.Int.{w128}
use Rattle.std.proofs.lemmas.Int.{to_z_pos}
use Rattle.mpc_words.proofs.IntegerLemmas.{none_without_minus, plain_spelled}
use Rattle.mpc_words.proofs.integers.read_integer.Goals as goal

pub returns-in_err-size : goal.returns-in_err-size
returns-in_err-size c = none_without_minus c.args.word.now c.from_residual.result c.if-has_minus.ensures c.from_residual.ensures c.in_err-size.ensures

pub returns : goal.returns
returns c = plain_spelled c.args.word.now c.in_ok-size.size _ c.in_ok-size.ensures (to_z_pos w128 c.in_ok-size.size c.in_ok-size.ensures.below)
