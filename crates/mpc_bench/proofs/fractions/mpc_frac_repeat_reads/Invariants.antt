use Rattle.std.proofs.Common.{◌≡◌}
use Rattle.mpc_bench.specs.Digests.{passes, number_digit, number_at}
use Rattle.mpc_bench.proofs.fractions.mpc_frac_repeat_reads.Given as goal

abbrev pub invariant-rounds : goal.invariant-rounds
invariant-rounds l = l.digest ≡ passes (λ place. number_digit (number_at l.parts place)) l.counter
