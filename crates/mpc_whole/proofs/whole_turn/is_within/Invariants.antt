use Rattle.std.proofs.Common.{ℕ, ◌<◌, ◌≤◌, unsigned_abs}
use Rattle.mpc_scaled.specs.Scaled.{whole_at}
use Rattle.mpc_whole.proofs.whole_turn.is_within.Given as goal

abbrev pub invariant-loop-index : goal.invariant-loop-index
invariant-loop-index l = (k : ℕ) → k < l.index → unsigned_abs (whole_at l.list k) ≤ l.most
