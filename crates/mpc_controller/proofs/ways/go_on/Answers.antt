use Rattle.std.proofs.Common.{◌≡◌, ◌++◌, ◌∷◌, [], true, sym, subst, rules}
use Rattle.mpc_controller.specs.Ways.{IsWay, turn_at}
use Rattle.mpc_controller.proofs.WayLemmas.{leaf_ends, split_goes_on}
use Rattle.mpc_controller.proofs.ways.go_on.Goals as goal

pub turn_over-requires-clause-ended : goal.turn_over-requires-clause-ended
turn_over-requires-clause-ended c = leaf_ends c.args.tree.now c.args.way.now.items c.args.place c.at.result.now c.requires.way c.at.ensures (c.is_leaf.ensures.0 c.if-is_leaf.true)

pub returns : goal.returns
returns c =
    let pushed : c.push.new.self.items ≡ c.args.way.now.items ++ turn_at c.args.place true ∷ [] = search rules in
    λ inside. subst (IsWay c.args.tree.now _) (sym pushed) (split_goes_on c.args.tree.now c.args.way.now.items c.args.place c.at.result.now c.requires.way c.at.ensures (λ is. let yes_leaf = c.is_leaf.ensures.1 is in absurd cc))
