use Rattle.std.proofs.Common.{◌≡◌, ℕ, ◌<◌}
use Rattle.mpc_runs.specs.Table.{variable_at}
use Rattle.mpc_scaled.specs.Scaled.{whole_at}
use Rattle.mpc_whole.specs.Judged.{row_cell, coefficient_of, IsTermStated}
use Rattle.mpc_whole.proofs.stated.are_terms_stated.Given as goal

abbrev pub invariant-loop-column : goal.invariant-loop-column
invariant-loop-column l = (d : ℕ) → d < l.column → (variable_at l.here.nonbasic.now d ≡ l.by.entering → ⊥)
    → IsTermStated (coefficient_of l.frame.scales.now l.here.den l.row_variable (variable_at l.here.nonbasic.now d) (row_cell l.system l.frame.a.now l.here.numbers.now l.row_variable d)) l.factor (coefficient_of l.frame.scales.now l.by.rest l.by.leaving (variable_at l.here.nonbasic.now d) (whole_at l.by.row.now d)) l.pivot
