use Rattle.std.proofs.Common.{◌≡◌, ℕ, ◌<◌, pos}
use Rattle.mpc_scaled.specs.Scaled.{whole_at}
use Rattle.mpc_whole.proofs.whole_values.are_zero.Given as goal

abbrev pub invariant-loop-index : goal.invariant-loop-index
invariant-loop-index l = (k : ℕ) → k < l.index → whole_at l.list k ≡ pos 0
