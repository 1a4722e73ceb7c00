use Rattle.std.proofs.Common.{length}
use Rattle.mpc_region.specs.SweptRows.{number_from}
use Rattle.mpc_region.proofs.SweptRows.{WritingSides}
use Rattle.mpc_region.proofs.rows.write_sides.Given as goal

abbrev pub invariant-loop-index : goal.invariant-loop-index
invariant-loop-index l = WritingSides (number_from l.table l.row l.first) l.by (length l.fn.sides) l.index l.sides
