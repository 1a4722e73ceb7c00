use Rattle.std.proofs.Common.{◌^◌}
use Rattle.mpc_sweep.specs.Steps.{AreWritten, IsChanged}
use Rattle.mpc_sweep.proofs.short.write_short_row.Given as goal

abbrev pub invariant-loop-column : goal.invariant-loop-column
invariant-loop-column l = AreWritten (2 ^ 30) l.first l.column (IsChanged l.by.den l.row l.top l.pivot_place) l.fn.out l.out
