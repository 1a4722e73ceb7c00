use Rattle.std.proofs.Common.{◌≡◌, ℕ, ◌*◌, ◌<◌, ◌≤◌, unsigned_abs}
use Rattle.mpc_runs.specs.Table.{variable_at}
use Rattle.mpc_scaled.specs.Scaled.{whole_at, scale_at}
use Rattle.mpc_whole.proofs.judge.factors_of.Given as goal

abbrev pub invariant-loop-column : goal.invariant-loop-column
invariant-loop-column l = record {
  own : scale_at l.scales l.leaving ≤ l.top;
  entering : (c : ℕ) → c < l.column → variable_at l.nonbasic c ≡ l.entering → unsigned_abs (whole_at l.row c) * scale_at l.scales (variable_at l.nonbasic c) ≤ l.size;
  others : (c : ℕ) → c < l.column → (variable_at l.nonbasic c ≡ l.entering → ⊥) → unsigned_abs (whole_at l.row c) * scale_at l.scales (variable_at l.nonbasic c) ≤ l.top;
}
