use Rattle.std.proofs.Common.{length}
use Rattle.mpc_law_lines.proofs.NamedReading.{NamedRead}
use Rattle.mpc_law_lines.proofs.named_trees.read_named_nodes.Given as goal

abbrev pub invariant-loop-depth : goal.invariant-loop-depth
invariant-loop-depth l = NamedRead l.plant l.laws l.planes l.fn.lines l.lines l.tree l.owed l.used

abbrev pub decreases-loop-depth : goal.decreases-loop-depth
decreases-loop-depth l = length l.lines.rest
