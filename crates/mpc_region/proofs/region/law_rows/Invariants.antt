use Rattle.std.proofs.Common.{◌-◌}
use Rattle.mpc_region.proofs.LawRowLists.{AreFirstRows}
use Rattle.mpc_region.proofs.region.law_rows.Given as goal

abbrev pub invariant-loop-number : goal.invariant-loop-number
invariant-loop-number l = AreFirstRows l.qp l.law (l.number - 1) l.rows.items
