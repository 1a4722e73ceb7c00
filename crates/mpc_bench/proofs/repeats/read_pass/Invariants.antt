use Rattle.std.proofs.Common.{◌≡◌}
use Rattle.mpc_bench.specs.Digests.{digits_mixed, number_digit, number_at}
use Rattle.mpc_bench.proofs.repeats.read_pass.Given as goal

abbrev pub invariant-loop-k : goal.invariant-loop-k
invariant-loop-k l = l.digest ≡ digits_mixed (λ place. number_digit (number_at l.parts place)) l.k l.fn.digest
