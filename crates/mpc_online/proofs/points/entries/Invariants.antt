use Rattle.std.proofs.Common.{get_or, pos}
use Rattle.mpc_exact.specs.Rational.{frac}
use Rattle.mpc_online.proofs.Filled.{IsFilled}
use Rattle.mpc_online.proofs.points.entries.Given as goal

abbrev pub invariant-loop-place : goal.invariant-loop-place
invariant-loop-place l = IsFilled l.out.items l.place (λ k. frac (get_or l.numbers.numerators k (pos 0)) l.numbers.den)
