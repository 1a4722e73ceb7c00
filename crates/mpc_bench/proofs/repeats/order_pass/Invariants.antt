use Rattle.std.proofs.Common.{◌≡◌}
use Rattle.mpc_bench.specs.Digests.{digits_mixed, between, order_digit}
use Rattle.mpc_bench.proofs.repeats.order_pass.Given as goal

abbrev pub invariant-loop-k : goal.invariant-loop-k
invariant-loop-k l = l.digest ≡ digits_mixed (between order_digit l.left l.right) l.k l.fn.digest
