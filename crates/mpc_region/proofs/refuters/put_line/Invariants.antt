use Rattle.std.proofs.Common.{◌≡◌, ◌+◌, length}
use Rattle.mpc_region.specs.Refuters.{IsLine}
use Rattle.mpc_region.proofs.refuters.put_line.Given as goal

abbrev pub invariant-loop-column : goal.invariant-loop-column
invariant-loop-column l = record { size : length l.line ≡ length l.qp.counts + 1; written : IsLine l.qp l.table l.row l.column l.line }
