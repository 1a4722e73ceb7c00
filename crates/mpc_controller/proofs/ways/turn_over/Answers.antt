use Rattle.std.proofs.Common.{◌≡◌, ◌++◌, ◌∷◌, [], false, sym, subst, rules}
use Rattle.mpc_controller.specs.Ways.{IsWay, turn_at}
use Rattle.mpc_controller.proofs.WayLemmas.{to_no_side, ends_split, all_ended}
use Rattle.mpc_controller.proofs.ways.turn_over.Goals as goal

pub loop-turn-preserved : goal.loop-turn-preserved
loop-turn-preserved c =
    let popped : c.loop-turn.way.items ≡ c.pop.new.self.items ++ c.in-Some.turn ∷ [] = search rules in
    ends_split c.args.tree.now c.pop.new.self.items c.in-Some.turn c.loop-turn.way.items c.args.end popped c.loop-turn.invariant c.preorder_theorems.ensures.joined c.if-turn.false

pub returns-then-turn : goal.returns-then-turn
returns-then-turn c =
    let popped : c.loop-turn.way.items ≡ c.pop.new.self.items ++ c.in-Some.turn ∷ [] = search rules in
    let pushed : c.push.new.self.items ≡ c.pop.new.self.items ++ turn_at c.in-Some.turn.split false ∷ [] = search rules in
    λ inside. subst (IsWay c.args.tree.now c.args.end) (sym pushed) (to_no_side c.args.tree.now c.pop.new.self.items c.in-Some.turn c.loop-turn.way.items c.args.end popped c.loop-turn.invariant c.if-turn.true inside)

pub returns : goal.returns
returns c =
    let none : c.loop-turn.way.items ≡ [] = search rules in
    λ inside. absurd (all_ended c.args.tree.now c.loop-turn.way.items c.args.end none c.requires.tree c.loop-turn.invariant inside)
