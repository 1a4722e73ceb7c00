use Rattle.std.proofs.Common.{◌≡◌, ◌+◌, ◌-◌, ◌/◌, ◌<◌, ◌≤◌, length, sym, subst, arith}
use Rattle.std.specs.Prelude.{slice_index}
use Rattle.mpc_block.specs.Walks.{FindsLeaf}
use Rattle.mpc_block.proofs.BlockLemmas.{some_node}
use Rattle.mpc_block.proofs.LeafLemmas.{height_inside, finds_leaf, ends_inside}
use Rattle.mpc_block.proofs.replies.find_leaf.Goals as goal

pub returns-in-Some-part : goal.returns-in-Some-part
returns-in-Some-part c = λ parts s width_is.
    let low : slice_index c.args.words.now 10 < c.min-turns.result + 1 = omega (arith, height_inside c.args.words.now parts s.block (some_node parts.tree s.block.controller.shapes.complete), c.min-turns.ensures) in
    let node = c.in-Some-part.node.now in
    let before : c.saturating_sub.result ≡ c.in-Some.start - 12 = omega (arith, c.saturating_sub.ensures) in
    subst (λ n. FindsLeaf c.args.words.now c.args.counts.now parts (n / c.line_size-size.result + 1) (slice_index node 1) (slice_index node 2)) (sym before)
    (finds_leaf c.args.words.now c.args.counts.now parts s.block c.args.width c.in-Some.start c.line_size-size.result width_is c.line_size-size.ensures (c.in-Some.ensures parts s width_is low) node c.in-Some-part.ensures.0)

pub returns-in_default : goal.returns-in_default
returns-in_default c = λ parts s width_is.
    let low : slice_index c.args.words.now 10 < c.min-turns.result + 1 = omega (arith, height_inside c.args.words.now parts s.block (some_node parts.tree s.block.controller.shapes.complete), c.min-turns.ensures) in
    c.in_default.ensures parts s width_is low

pub returns-in-None : goal.returns-in-None
returns-in-None c = λ parts s width_is.
    let low : slice_index c.args.words.now 10 < c.min-turns.result + 1 = omega (arith, height_inside c.args.words.now parts s.block (some_node parts.tree s.block.controller.shapes.complete), c.min-turns.ensures) in
    let inside : c.in-Some.start + c.line_size-size.result ≤ length c.args.words.now = ends_inside c.args.words.now c.args.counts.now parts s.block c.args.width c.in-Some.start c.line_size-size.result width_is c.line_size-size.ensures (c.in-Some.ensures parts s width_is low) in
    omega (arith, c.in-None.ensures)
