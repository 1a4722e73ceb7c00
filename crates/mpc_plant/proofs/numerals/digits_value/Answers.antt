use Rattle.std.proofs.Common.{arith}
use Rattle.mpc_plant.proofs.DigitLemmas.{digits_fit, digits_small}
use Rattle.mpc_plant.proofs.numerals.digits_value.Goals as goal

pub overflow_mul-value : goal.overflow_mul-value
overflow_mul-value c = let h = digits_fit c.loop-byte.value c.loop-byte.byte-index c.loop-byte.invariant.small (omega arith) in omega arith

pub overflow_add-value : goal.overflow_add-value
overflow_add-value c = let h = digits_fit c.loop-byte.value c.loop-byte.byte-index c.loop-byte.invariant.small (omega arith) in omega arith

pub returns-clause-small : goal.returns-clause-small
returns-clause-small c = digits_small c.loop-byte.value c.loop-byte.byte-index _ c.loop-byte.invariant.small c.loop-byte.auto.byte-index-end c.requires
