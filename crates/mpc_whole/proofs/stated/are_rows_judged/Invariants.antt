use Rattle.std.proofs.Common.{◌≡◌, ℕ, ◌<◌, ◌⊎◌, true}
use Rattle.mpc_runs.specs.Table.{seat_at, in_row}
use Rattle.mpc_whole.specs.Judged.{IsRowBelow, IsRowStated}
use Rattle.mpc_whole.proofs.stated.are_rows_judged.Given as goal

abbrev pub invariant-loop-row_variable : goal.invariant-loop-row_variable
invariant-loop-row_variable l = (x : ℕ) → x < l.row_variable → in_row (seat_at l.here.seats.now x) ≡ true
    → IsRowBelow l.system l.frame.count l.here.seats.now l.frame.scales.now l.frame.a.now l.here.den l.here.numbers.now l.factors.enters l.factors.top l.factors.size x
    ⊎ IsRowStated l.system l.frame.count l.here.seats.now l.frame.scales.now l.frame.a.now l.here.den l.here.numbers.now l.by.leaving l.by.entering l.by.rest l.by.row.now x
