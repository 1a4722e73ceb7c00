use Rattle.std.proofs.Common.{rules, ◌≡◌, ◌≤◌, length, sym, ◌∙◌, ap, subst, arith}
use Rattle.std.specs.Prelude.{slice_index}
use Rattle.mpc_block.specs.Words.{words_from}
use Rattle.mpc_block.specs.Heights.{AreHeightsFrom}
use Rattle.mpc_block.specs.Block.{block_size, width_of, line_start, words_each}
use Rattle.mpc_block.specs.Layouts.{AreNodesTo, KeepsBefore}
use Rattle.mpc_table.specs.Steps.{AreNoSides}
use Rattle.std.proofs.lemmas.List.{get_or_read}
use Rattle.mpc_controller.specs.Preorder.{IsTree}
use Rattle.mpc_block.proofs.BlockLemmas.{some_node}
use Rattle.mpc_block.proofs.LayoutLemmas.{block_of, head_of, nodes_kept, words_kept, kept_twice}
use Rattle.mpc_block.proofs.layouts.write_block.Goals as goal

pub returns : goal.returns
returns c =
    let parts = c.args.controller.now in
    let sides = c.in_ok-sides.sides.items in
    let heights = c.in_ok-heights.heights.items in
    let words = c.write_laws.new.words in
    let tree_is : c.tree-tree.result.now ≡ parts.tree = c.tree-tree.ensures.value in
    let size : length c.head_line-head.result ≡ 12 = search rules in
    let long : block_size parts ≤ length words = omega (arith, c.requires.room, c.write_laws.auto.words, c.write_nodes.auto.words, c.put_line.auto.words) in
    let first = line_start (width_of parts) (length parts.tree) in
    let behind : 12 ≤ first = omega arith in
    let after : KeepsBefore first c.write_nodes.new.words words = subst (λ w. KeepsBefore (line_start w (length parts.tree)) c.write_nodes.new.words words) c.width-width.ensures c.write_laws.ensures.kept in
    let kept = kept_twice c.put_line.new.words c.write_nodes.new.words words 12 first behind c.write_nodes.ensures.kept after in
    let written : words_from c.put_line.new.words 0 12 ≡ c.head_line-head.result = subst (λ n. words_from c.put_line.new.words 0 n ≡ c.head_line-head.result) size c.put_line.ensures.written in
    let top : c.index.result.now ≡ slice_index c.in_ok-heights.heights.items 0 = get_or_read c.in_ok-heights.heights.items 0 c.index.result.now (omega (arith, c.in_ok-heights.ensures.one_each, some_node c.tree-tree.result.now (subst IsTree (sym tree_is) c.tree-tree.ensures.controller.shapes.complete))) c.index.ensures 0 in
    block_of parts c.tree-tree.ensures.controller sides heights words long (record {
      head = head_of parts c.plant-2.result.now c.args.size c.len.result c.len-2.result _ c.words_each.result _ c.head_line-head.result _ c.plant-2.ensures.value c.requires.size (c.len.ensures ∙ ap length tree_is) (c.len-2.ensures ∙ ap length c.laws.ensures.value) top
          (c.words_each.ensures ∙ ap words_each c.width-width.ensures) (words_kept c.put_line.new.words words 12 0 12 kept (omega arith) ∙ written) c.head_line-head.ensures;
      nodes = nodes_kept parts sides c.write_nodes.new.words words after (subst (λ s. AreNodesTo parts s (length parts.tree) c.write_nodes.new.words) c.as_slice-3.ensures.value c.write_nodes.ensures.nodes);
      are_sides = subst (λ t. AreNoSides t sides) tree_is c.in_ok-sides.ensures;
      are_heights = subst (λ t. AreHeightsFrom t sides 0 heights) tree_is (subst (λ s. AreHeightsFrom c.tree-tree.result.now s 0 heights) c.as_slice.ensures.value c.in_ok-heights.ensures);
      forms = c.write_laws.ensures.forms;
    })
