use Rattle.std.proofs.Common.{length}
use Rattle.mpc_grammar.specs.TreeGrammar.{written_split, node_of}
use Rattle.mpc_law_lines.proofs.TreeReading.{NodesRead}
use Rattle.mpc_law_lines.proofs.tree_lines.read_written_nodes.Given as goal

abbrev pub invariant-loop-depth : goal.invariant-loop-depth
invariant-loop-depth l = NodesRead l.plant l.laws (λ before. written_split l.plant) (node_of (λ row. row)) l.fn.lines l.lines l.tree l.owed

abbrev pub decreases-loop-depth : goal.decreases-loop-depth
decreases-loop-depth l = length l.lines.rest
