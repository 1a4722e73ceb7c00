use Rattle.mpc_region.specs.Refuters.{AreLines}
use Rattle.mpc_region.proofs.refuters.put_lines.Given as goal

abbrev pub invariant-loop-index : goal.invariant-loop-index
invariant-loop-index l = AreLines l.qp l.table l.rows l.index l.lines
