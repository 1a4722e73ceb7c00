use Rattle.std.proofs.Common.{◌≡◌, ℕ, ◌*◌, ◌<◌, ◌≤◌, ◌^◌, unsigned_abs}
use Rattle.mpc_runs.specs.Table.{variable_at}
use Rattle.mpc_scaled.specs.Scaled.{scale_at}
use Rattle.mpc_whole.specs.Judged.{row_cell}
use Rattle.mpc_whole.proofs.stated.is_row_below.Given as goal

abbrev pub invariant-loop-column : goal.invariant-loop-column
invariant-loop-column l = record {
  entering : (c : ℕ) → c < l.column → variable_at l.here.nonbasic.now c ≡ l.by.enters → (unsigned_abs (row_cell l.system l.frame.a.now l.here.numbers.now l.row_variable c) * scale_at l.frame.scales.now (variable_at l.here.nonbasic.now c)) * l.by.top ≤ 2 ^ 125;
  others : (c : ℕ) → c < l.column → (variable_at l.here.nonbasic.now c ≡ l.by.enters → ⊥) → (unsigned_abs (row_cell l.system l.frame.a.now l.here.numbers.now l.row_variable c) * scale_at l.frame.scales.now (variable_at l.here.nonbasic.now c)) * l.by.size ≤ 2 ^ 125;
}
