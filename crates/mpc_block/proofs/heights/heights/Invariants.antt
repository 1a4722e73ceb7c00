use Rattle.std.proofs.Common.{◌-◌}
use Rattle.mpc_block.specs.Heights.{AreHeightsFrom}
use Rattle.mpc_block.proofs.heights.heights.Given as goal

abbrev pub invariant-loop-i : goal.invariant-loop-i
invariant-loop-i l = AreHeightsFrom l.tree l.sides (l.count - l.i) l.heights.items
