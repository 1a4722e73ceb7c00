use Rattle.std.proofs.Common.{◌≡◌}
use Rattle.mpc_bench.specs.Digests.{passes, paired, product_digit}
use Rattle.mpc_bench.proofs.fractions.mpc_frac_repeat_products.Given as goal

abbrev pub invariant-rounds : goal.invariant-rounds
invariant-rounds l = l.digest ≡ passes (paired product_digit l.left l.right) l.counter
