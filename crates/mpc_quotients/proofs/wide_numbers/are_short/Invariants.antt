use Rattle.std.proofs.Common.{ℕ, ◌<◌, ◌≤◌, ◌^◌, unsigned_abs}
use Rattle.mpc_scaled.specs.Scaled.{whole_at}
use Rattle.mpc_quotients.proofs.wide_numbers.are_short.Given as goal

abbrev pub invariant-loop-place : goal.invariant-loop-place
invariant-loop-place l = (k : ℕ) → k < l.place → unsigned_abs (whole_at l.list k) ≤ 2 ^ 62
