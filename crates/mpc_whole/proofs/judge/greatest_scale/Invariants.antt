use Rattle.std.proofs.Common.{ℕ, ◌<◌, ◌≤◌}
use Rattle.mpc_scaled.specs.Scaled.{scale_at}
use Rattle.mpc_whole.proofs.judge.greatest_scale.Given as goal

abbrev pub invariant-loop-variable : goal.invariant-loop-variable
invariant-loop-variable l = (x : ℕ) → x < l.variable → scale_at l.scales x ≤ l.most
