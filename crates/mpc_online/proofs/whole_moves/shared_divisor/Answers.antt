use Rattle.std.proofs.Common.{subst, sym}
use Rattle.std.specs.Int.{◌∣◌}
use Rattle.std.proofs.Math.Nat.{one-dvd}
use Rattle.mpc_exact.specs.Gcd.{gcd-divides_left, gcd-divides_right}
use Rattle.mpc_online.proofs.whole_moves.shared_divisor.Goals as goal

pub returns-clause-of_a : goal.returns-clause-of_a
returns-clause-of_a c = subst (λ n. n ∣ c.args.first) (sym c.greatest_common_divisor.ensures.value) (gcd-divides_left c.args.first c.args.second)

pub returns-clause-of_b : goal.returns-clause-of_b
returns-clause-of_b c = subst (λ n. n ∣ c.args.second) (sym c.greatest_common_divisor.ensures.value) (gcd-divides_right c.args.first c.args.second)

pub returns-then-first-eq1-clause-of_a : goal.returns-then-first-eq1-clause-of_a
returns-then-first-eq1-clause-of_a c = one-dvd c.args.first

pub returns-then-first-eq1-clause-of_b : goal.returns-then-first-eq1-clause-of_b
returns-then-first-eq1-clause-of_b c = one-dvd c.args.second
