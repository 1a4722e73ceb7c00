use Rattle.mpc_law_lines.proofs.NamedReading.{tree_answer}
use Rattle.mpc_law_lines.proofs.named_trees.read_named_tree.Goals as goal

pub returns : goal.returns
returns c =
    tree_answer c.args.plant.now c.args.laws c.args.planes.now c.args.lines.now c.read_word.new.lines c.read_named_nodes.new.lines c.in_ok-read_word.field-0 c.read_named_nodes.result c.in_ok-read_word.ensures c.read_named_nodes.ensures
