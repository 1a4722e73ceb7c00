use Rattle.std.proofs.Common.{◌≡◌, ◌++◌, [], ◌∷◌, false, true, ℕ, ◌+◌, ◌≤◌, ◌∙◌, List, drop, sym, ap, subst, arith, Vec, Global, max}
use Rattle.std.proofs.lemmas.List.{drop_all}
use Rattle.mpc_rows.specs.declared.trees.Node.{Node}
use Rattle.mpc_controller.specs.Preorder.{IsTree}
use Rattle.mpc_trace.specs.SearchTree.{IsTreeOf}
use Rattle.mpc_trace.proofs.TreeLemmas.{IsOwed, tree_of, owed_first, owed_last, walked, some_owed, above_at_most, step_taken, next_split, next_leaf, moved}
use Rattle.mpc_trace.proofs.counts.tree_size.Goals as goal
use Rattle.mpc_trace.proofs.counts.tree_size.Goals.{in-Split+in_ok-push-2+in_ok-push-3, in_default-node}

pub loop-node-init : goal.loop-node-init
loop-node-init c = λ whole is.
    subst (λ (k : List ℕ). IsOwed whole c.as_slice-node-items.result.now k 0 0 0)
    (sym (c.in_ok-push.ensures.items ∙ ap (λ (xs : List ℕ). xs ++ 0 ∷ []) c.new-owed.ensures.items)) (owed_first whole c.as_slice-node-items.result.now is)

pub unreachable-requires : goal.unreachable-requires
unreachable-requires c =
    let items = c.as_slice-node-items.result.now in
    let tree = tree_of items (subst IsTree (sym c.as_slice-node-items.ensures) c.requires) in
    let s = walked tree.0 items c.loop-node.node-index c.node-item.result c.loop-node.owed.items c.loop-node.leaves c.loop-node.depth c.loop-node-test.true c.node-item.is (c.loop-node.invariant tree.0 tree.1) in
    let some = some_owed tree.0 c.node-item.result (drop (c.loop-node.node-index + 1) items) c.loop-node.owed.items c.loop-node.leaves c.loop-node.depth c.loop-node.node-index s in
    let no : false ≡ true = c.in_default.ensures.variant.1 (omega (arith, some, c.loop-node.owed.ok.0)) in
    absurd cc

pub overflow_add-above : goal.overflow_add-above
overflow_add-above c =
    let items = c.as_slice-node-items.result.now in
    let tree = tree_of items (subst IsTree (sym c.as_slice-node-items.ensures) c.requires) in
    let s = walked tree.0 items c.loop-node.node-index c.node-item.result c.loop-node.owed.items c.loop-node.leaves c.loop-node.depth c.loop-node-test.true c.node-item.is (c.loop-node.invariant tree.0 tree.1) in
    let few : c.in-Some.above ≤ c.loop-node.node-index = above_at_most tree.0 c.node-item.result (drop (c.loop-node.node-index + 1) items) c.loop-node.owed.items c.pop.new.self.items c.in-Some.above c.loop-node.leaves c.loop-node.depth c.loop-node.node-index s c.in-Some.ensures.items in
    omega (arith, few)

pub overflow_add-above-in-Split : goal.overflow_add-above-in-Split
overflow_add-above-in-Split c =
    let items = c.as_slice-node-items.result.now in
    let tree = tree_of items (subst IsTree (sym c.as_slice-node-items.ensures) c.requires) in
    let s = walked tree.0 items c.loop-node.node-index c.node-item.result c.loop-node.owed.items c.loop-node.leaves c.loop-node.depth c.loop-node-test.true c.node-item.is (c.loop-node.invariant tree.0 tree.1) in
    let few : c.in-Some.above ≤ c.loop-node.node-index = above_at_most tree.0 c.node-item.result (drop (c.loop-node.node-index + 1) items) c.loop-node.owed.items c.pop.new.self.items c.in-Some.above c.loop-node.leaves c.loop-node.depth c.loop-node.node-index s c.in-Some.ensures.items in
    omega (arith, few)

pub overflow_add-leaves : goal.overflow_add-leaves
overflow_add-leaves c =
    let items = c.as_slice-node-items.result.now in
    let tree = tree_of items (subst IsTree (sym c.as_slice-node-items.ensures) c.requires) in
    let s = walked tree.0 items c.loop-node.node-index c.node-item.result c.loop-node.owed.items c.loop-node.leaves c.loop-node.depth c.loop-node-test.true c.node-item.is (c.loop-node.invariant tree.0 tree.1) in
    omega (arith, s.leaves_few)

pub loop-node-preserved : goal.loop-node-preserved
loop-node-preserved c = λ whole is.
    let items = c.as_slice-node-items.result.now in
    let rest = drop (c.loop-node.node-index + 1) items in
    let i = c.loop-node.node-index in
    let s = walked whole items c.loop-node.node-index c.node-item.result c.loop-node.owed.items c.loop-node.leaves c.loop-node.depth c.loop-node-test.true c.node-item.is (c.loop-node.invariant whole is) in
    let next = step_taken whole c.node-item.result rest c.loop-node.owed.items c.pop.new.self.items c.in-Some.above c.loop-node.leaves c.loop-node.depth i s c.in-Some.ensures.items in
    elim c.match-node.branch [
      | in-Split+in_ok-push-2+in_ok-push-3 w ↦
          moved whole rest ((c.pop.new.self.items ++ (c.in-Some.above + 1) ∷ []) ++ (c.in-Some.above + 1) ∷ []) c.match-node.owed.items c.loop-node.leaves c.match-node.leaves c.loop-node.depth c.match-node.depth (i + 1)
          (ap (λ (v : Vec ℕ Global). v.items) w.owed-is ∙ w.in_ok-push-3.ensures.items ∙ ap (λ (xs : List ℕ). xs ++ (c.in-Some.above + 1) ∷ []) w.in_ok-push-2.ensures.items) w.leaves-is w.depth-is
          (next_split whole c.node-item.result w.in-Split.field-0 rest c.pop.new.self.items c.in-Some.above c.loop-node.leaves c.loop-node.depth i w.in-Split.is next)
      | in_default-node w ↦
          moved whole rest c.pop.new.self.items c.match-node.owed.items (c.loop-node.leaves + 1) c.match-node.leaves (max c.in-Some.above c.loop-node.depth) c.match-node.depth (i + 1)
          (ap (λ (v : Vec ℕ Global). v.items) w.owed-is) w.leaves-is (w.depth-is ∙ w.max-depth.ensures)
          (next_leaf whole c.node-item.result rest c.pop.new.self.items c.in-Some.above c.loop-node.leaves c.loop-node.depth i w.in_default-node.not-Split next)
    ]

pub returns : goal.returns
returns c =
    let items = c.as_slice-node-items.result.now in
    let tree = tree_of items (subst IsTree (sym c.as_slice-node-items.ensures) c.requires) in
    let left : drop c.loop-node.node-index items ≡ [] = drop_all c.loop-node.node-index items c.loop-node-test.false in
    let h = subst (λ (k : List Node). IsOwed tree.0 k c.loop-node.owed.items c.loop-node.leaves c.loop-node.depth c.loop-node.node-index) left (c.loop-node.invariant tree.0 tree.1) in
    subst (λ (k : List Node). IsTreeOf k c.loop-node.leaves c.loop-node.depth) c.as_slice-node-items.ensures (owed_last tree.0 items c.loop-node.owed.items c.loop-node.leaves c.loop-node.depth c.loop-node.node-index tree.1 h)
