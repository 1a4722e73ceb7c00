use Rattle.std.proofs.Common.{◌≡◌, ◌++◌, ◌∷◌, [], rules}
use Rattle.mpc_tree.proofs.GroupLemmas.{last_group, one_group_more}
use Rattle.mpc_tree.proofs.frontier.groups.Goals as goal

pub loop-behind-preserved : goal.loop-behind-preserved
loop-behind-preserved c =
    let pushed : c.push.new.self.items ≡ c.loop-behind.groups.items ++ c.split_off.new.self ∷ [] = search rules in
    one_group_more c.loop-behind.groups.items c.push.new.self.items c.split_off.new.self c.in_ok-rest.rest.items c.loop-behind.pieces.items c.args.pieces.items c.pieces_up_to-front.result pushed (search rules) (search rules) c.loop-behind.invariant

pub returns : goal.returns
returns c =
    let pushed : c.push-2.new.self.items ≡ c.loop-behind.groups.items ++ c.loop-behind.pieces ∷ [] = search rules in
    last_group c.loop-behind.groups.items c.push-2.new.self.items c.loop-behind.pieces c.args.pieces.items pushed c.loop-behind.invariant
