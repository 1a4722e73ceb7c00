use Rattle.std.proofs.Common.{◌<◌, ◌^◌, List, length, arith}
use Rattle.mpc_linear.specs.declared.integers.RowInt.{RowInt}
use Rattle.mpc_grammar.specs.TreeGrammar.{NodeOver, written_split, node_of}
use Rattle.mpc_law_lines.proofs.TreeReading.{no_node, depth_small, node_more, node_shrinks, node_given, written_owes, written_text}
use Rattle.mpc_law_lines.proofs.tree_lines.read_written_nodes.Goals as goal

pub loop-depth-init : goal.loop-depth-init
loop-depth-init c = no_node c.args.plant.now c.args.laws (λ (before : List (NodeOver RowInt)). written_split c.args.plant.now) (node_of (λ row. row)) c.args.lines.now c.new-tree.result c.in_ok-owed.owed c.new-tree.ensures c.in_ok-owed.ensures

pub read_written_node-requires-clause-depth_small : goal.read_written_node-requires-clause-depth_small
read_written_node-requires-clause-depth_small c =
    let room : length c.args.lines.now.rest < 2 ^ 64 = omega (arith, c.left-left.ensures, c.left-left.type_inv) in
    depth_small c.args.plant.now c.args.laws (λ (before : List (NodeOver RowInt)). written_split c.args.plant.now) (node_of (λ row. row)) c.args.lines.now c.loop-depth.lines c.loop-depth.tree c.loop-depth.owed c.next.new.self c.in-Some.depth c.loop-depth.invariant c.in-Some.ensures
    (λ before. written_text c.args.plant.now) room

pub owe_under-requires : goal.owe_under-requires
owe_under-requires c =
    let room : length c.args.lines.now.rest < 2 ^ 64 = omega (arith, c.left-left.ensures, c.left-left.type_inv) in
    let small : c.in-Some.depth < 2 ^ 63 = depth_small c.args.plant.now c.args.laws (λ (before : List (NodeOver RowInt)). written_split c.args.plant.now) (node_of (λ row. row)) c.args.lines.now c.loop-depth.lines c.loop-depth.tree c.loop-depth.owed c.next.new.self c.in-Some.depth c.loop-depth.invariant c.in-Some.ensures
    (λ before. written_text c.args.plant.now) room in
    omega (arith, small)

pub loop-depth-smaller : goal.loop-depth-smaller
loop-depth-smaller c =
    let less = node_shrinks c.args.plant.now c.args.laws (written_split c.args.plant.now) (written_text c.args.plant.now) c.in-Some.depth c.loop-depth.lines c.in_ok-node.ensures.0 c.in_ok-node.ensures.1.0 c.in_ok-node.ensures.1.1.0 in
    let same = c.in_ok-node.ensures.1.1.1.1 in
    let shorter : length c.read_written_node.new.lines.rest < length c.loop-depth.lines.rest = rw same (omega (arith, less)) in
    shorter

pub loop-depth-preserved : goal.loop-depth-preserved
loop-depth-preserved c =
    node_more c.args.plant.now c.args.laws (λ (before : List (NodeOver RowInt)). written_split c.args.plant.now) (node_of (λ row. row)) c.args.lines.now c.loop-depth.lines c.loop-depth.tree c.loop-depth.owed c.next.new.self c.in-Some.depth c.loop-depth.invariant c.in-Some.ensures
    written_owes c.in_ok-node.ensures.0 c.read_written_node.new.lines (node_given c.args.plant.now c.args.laws c.in-Some.depth (written_split c.args.plant.now) (node_of (λ row. row)) c.loop-depth.lines c.read_written_node.new.lines c.in_ok-node.node c.in_ok-node.ensures) c.in_ok-node.node c.push.new.self c.owe_under.new.self c.in_ok-node.ensures.1.1.1.0 c.in_ok-push.ensures.ok c.in_ok-owe_under.ensures.ok
