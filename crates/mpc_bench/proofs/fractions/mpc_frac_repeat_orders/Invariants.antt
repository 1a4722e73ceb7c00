use Rattle.std.proofs.Common.{◌≡◌}
use Rattle.mpc_bench.specs.Digests.{passes, paired, order_digit}
use Rattle.mpc_bench.proofs.fractions.mpc_frac_repeat_orders.Given as goal

abbrev pub invariant-rounds : goal.invariant-rounds
invariant-rounds l = l.digest ≡ passes (paired order_digit l.left l.right) l.counter
