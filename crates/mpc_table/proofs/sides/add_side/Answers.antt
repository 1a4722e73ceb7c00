use Rattle.std.proofs.Common.{◌≡◌, ◌+◌, ◌++◌, ◌∷◌, [], length, sym, subst, rules}
use Rattle.std.specs.Prelude.{slice_set}
use Rattle.mpc_table.specs.OpenSplits.{AreSidesTo}
use Rattle.mpc_table.proofs.SideLemmas.{sides_split}
use Rattle.mpc_table.proofs.LeafLemmas.{sides_end, sides_pop}
use Rattle.mpc_table.proofs.sides.add_side.Goals as goal

pub returns-then-not-is_leaf-clause-next : goal.returns-then-not-is_leaf-clause-next
returns-then-not-is_leaf-clause-next c =
    let longer : c.push.new.self.items ≡ c.args.sides.now.items ++ 0 ∷ [] = search rules in
    let pushed : c.push-then-not-is_leaf.new.self.items ≡ c.args.pending.now.items ++ c.args.place ∷ [] = search rules in
    subst (λ sides. AreSidesTo c.args.tree.now (c.args.place + 1) sides c.push-then-not-is_leaf.new.self.items) (sym longer)
    (subst (AreSidesTo c.args.tree.now (c.args.place + 1) (c.args.sides.now.items ++ 0 ∷ [])) (sym pushed)
    (sides_split c.preorder_theorems.ensures.split c.args.tree.now c.args.place c.args.sides.now.items c.args.pending.now.items c.requires.so_far c.requires.inside c.at.result.now c.at.ensures (λ is. let yes = c.is_leaf.ensures.1 is in absurd cc)))

pub returns-in-Some-clause-next : goal.returns-in-Some-clause-next
returns-in-Some-clause-next c =
    let longer : c.push.new.self.items ≡ c.args.sides.now.items ++ 0 ∷ [] = search rules in
    let popped : c.args.pending.now.items ≡ c.pop.new.self.items ++ c.in-Some.split ∷ [] = search rules in
    subst (λ sides. AreSidesTo c.args.tree.now (c.args.place + 1) (slice_set sides c.in-Some.split (c.args.place + 1)) c.pop.new.self.items) (sym longer)
    (sides_pop c.preorder_theorems.ensures.leaf c.args.tree.now c.args.place c.args.sides.now.items c.args.pending.now.items c.requires.so_far c.requires.inside c.at.result.now c.at.ensures (c.is_leaf.ensures.0 c.if-not-is_leaf.false) c.pop.new.self.items c.in-Some.split popped)

pub returns-in_default-clause-next : goal.returns-in_default-clause-next
returns-in_default-clause-next c =
    let longer : c.push.new.self.items ≡ c.args.sides.now.items ++ 0 ∷ [] = search rules in
    let none : length c.args.pending.now.items ≡ 0 = search rules in
    let same : c.pop.new.self.items ≡ c.args.pending.now.items = search rules in
    subst (λ sides. AreSidesTo c.args.tree.now (c.args.place + 1) sides c.pop.new.self.items) (sym longer)
    (subst (AreSidesTo c.args.tree.now (c.args.place + 1) (c.args.sides.now.items ++ 0 ∷ [])) (sym same)
    (sides_end c.preorder_theorems.ensures.leaf c.args.tree.now c.args.place c.args.sides.now.items c.args.pending.now.items c.requires.so_far c.requires.inside c.at.result.now c.at.ensures (c.is_leaf.ensures.0 c.if-not-is_leaf.false) none))
