use Rattle.std.proofs.Common.{◌≡◌, ℕ, ◌<◌}
use Rattle.mpc_exact.specs.Rational.{frac}
use Rattle.mpc_scaled.specs.Scaled.{whole_at}
use Rattle.mpc_runs.proofs.Answered.{pair_in}
use Rattle.mpc_whole.proofs.whole_ends.wide_point.Given as goal

abbrev pub invariant-loop-unknown : goal.invariant-loop-unknown
invariant-loop-unknown l = (i : ℕ) → i < l.unknown → pair_in l.values i ≡ record { first = frac (whole_at l.firsts i) l.den; second = frac (whole_at l.seconds i) l.den }
