use Rattle.std.proofs.Common.{◌<◌, ◌^◌, length, arith}
use Rattle.mpc_law_lines.proofs.NamedReading.{named_none, named_small, named_more, named_node_error, named_given, named_shrinks}
use Rattle.mpc_law_lines.proofs.named_trees.read_named_nodes.Goals as goal

pub loop-depth-init : goal.loop-depth-init
loop-depth-init c = named_none c.args.plant.now c.args.laws c.args.planes.now c.args.lines.now c.new-tree.result c.in_ok-owed.owed c.new-tree.ensures c.in_ok-owed.ensures

pub read_named_node-requires-clause-depth_small : goal.read_named_node-requires-clause-depth_small
read_named_node-requires-clause-depth_small c =
    let room : length c.args.lines.now.rest < 2 ^ 64 = omega (arith, c.left-left.ensures, c.left-left.type_inv) in
    named_small c.args.plant.now c.args.laws c.args.planes.now c.args.lines.now c.loop-depth.lines c.loop-depth.tree c.loop-depth.owed c.next.new.self c.in-Some.depth c.loop-depth.used c.loop-depth.invariant c.in-Some.ensures room

pub returns-in_err-node : goal.returns-in_err-node
returns-in_err-node c =
    named_node_error c.args.plant.now c.args.laws c.args.planes.now c.args.lines.now c.loop-depth.lines c.loop-depth.tree c.loop-depth.owed c.next.new.self c.in-Some.depth c.loop-depth.used c.loop-depth.invariant c.in-Some.ensures
    c.from_residual-in_err-node.result c.in_err-node.field-0.0 c.read_named_node.new.lines c.read_named_node.new.lines c.in_err-node.ensures c.from_residual-in_err-node.ensures.1

pub owe_under-requires : goal.owe_under-requires
owe_under-requires c =
    let room : length c.args.lines.now.rest < 2 ^ 64 = omega (arith, c.left-left.ensures, c.left-left.type_inv) in
    let small : c.in-Some.depth < 2 ^ 63 =
    named_small c.args.plant.now c.args.laws c.args.planes.now c.args.lines.now c.loop-depth.lines c.loop-depth.tree c.loop-depth.owed c.next.new.self c.in-Some.depth c.loop-depth.used c.loop-depth.invariant c.in-Some.ensures room in
    omega (arith, small)

pub loop-depth-smaller : goal.loop-depth-smaller
loop-depth-smaller c = named_shrinks c.args.plant.now c.args.laws c.args.planes.now c.loop-depth.used c.in-Some.depth c.loop-depth.lines c.read_named_node.new.lines (c.in_ok-node.node, c.in_ok-node.used_then) c.in_ok-node.ensures

pub loop-depth-preserved : goal.loop-depth-preserved
loop-depth-preserved c =
    named_more c.args.plant.now c.args.laws c.args.planes.now c.args.lines.now c.loop-depth.lines c.loop-depth.tree c.loop-depth.owed c.next.new.self c.in-Some.depth c.loop-depth.used c.loop-depth.invariant c.in-Some.ensures
    c.in_ok-node.ensures.0 c.read_named_node.new.lines (named_given c.args.plant.now c.args.laws c.args.planes.now c.loop-depth.used c.in-Some.depth c.loop-depth.lines c.read_named_node.new.lines (c.in_ok-node.node, c.in_ok-node.used_then) c.in_ok-node.ensures)
    c.in_ok-node.node c.push.new.self c.owe_under.new.self c.in_ok-node.used_then (λ i. (c.in_ok-node.ensures.1.1.1.0 i).0) c.in_ok-push.ensures.ok c.in_ok-owe_under.ensures.ok (λ i. (c.in_ok-node.ensures.1.1.1.0 i).1)
