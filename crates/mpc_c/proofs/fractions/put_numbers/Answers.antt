use Rattle.std.proofs.Common.{length, arith}
use Rattle.mpc_c.proofs.Written.{numbers_written}
use Rattle.mpc_c.proofs.fractions.put_numbers.Goals as goal

pub returns : goal.returns
returns c =
    numbers_written c.loop-i.moves c.args.numbers.now (length c.args.moves.now) c.loop-i.auto.moves c.requires (λ k e l. c.loop-i.invariant k e (omega (arith, l, c.loop-i.auto.moves, c.loop-i.auto.i-end, c.loop-i-test.false)))
