use Rattle.std.proofs.Common.{◌≡◌, Some, subst, arith}
use Rattle.std.specs.Prelude.{slice_get}
use Rattle.mpc_block.proofs.WidthLemmas.{can_have_line}
use Rattle.mpc_block.proofs.LayoutLemmas.{node_more, kept_twice}
use Rattle.mpc_block.proofs.layouts.write_nodes.Goals as goal

pub put_node-requires-clause-fits : goal.put_node-requires-clause-fits
put_node-requires-clause-fits c =
    let node = c.at-node.result.now in
    can_have_line c.args.controller.now c.tree-tree.ensures.controller c.args.width c.requires.width c.loop-place.place node (subst (λ t. slice_get t c.loop-place.place ≡ Some node) c.tree-tree.ensures.value c.at-node.ensures)

pub loop-place-preserved : goal.loop-place-preserved
loop-place-preserved c =
    let node = c.at-node.result.now in
    let at : slice_get c.args.controller.now.tree c.loop-place.place ≡ Some node = subst (λ t. slice_get t c.loop-place.place ≡ Some node) c.tree-tree.ensures.value c.at-node.ensures in
    record {
      nodes = node_more c.args.controller.now c.args.sides.now c.loop-place.words c.put_node.new.words c.loop-place.place c.line_start.result c.word_after-word.result c.args.width node at c.requires.width c.line_start.ensures c.word_after-word.ensures c.put_node.ensures.written c.put_node.ensures.kept c.loop-place.invariant.nodes;
      kept = kept_twice c.args.words.now c.loop-place.words c.put_node.new.words 12 c.line_start.result (omega (arith, c.line_start.ensures)) c.loop-place.invariant.kept c.put_node.ensures.kept;
    }
