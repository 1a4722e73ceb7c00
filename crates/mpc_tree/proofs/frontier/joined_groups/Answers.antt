use Rattle.std.proofs.Common.{◌≡◌, ◌∷◌, ◌++◌, ◌+◌, sym, ◌∙◌, ap, subst, length, arith, rules}
use Rattle.std.specs.Vec.Iter.{into_iter_items, into_iter_len}
use Rattle.mpc_tree.specs.Pieces.{EndsRefused}
use Rattle.mpc_tree.proofs.GroupLemmas.{one_more_joined, joined_to_refused, all_groups_joined}
use Rattle.mpc_tree.proofs.frontier.joined_groups.Goals as goal

pub loop-group-preserved : goal.loop-group-preserved
loop-group-preserved c =
    let left = into_iter_items c.next.new.self in
    let steps : (into_iter_items c.loop-group.group-iterator ≡ c.in-Some.group ∷ left) × (into_iter_len c.next.new.self + 1 ≡ into_iter_len c.loop-group.group-iterator) = c.in-Some.ensures.steps in
    let pushed : c.append.new.self.items ≡ c.loop-group.pieces.items ++ c.in_ok-new.new.items = search rules in
    record {
      joined = one_more_joined c.args.groups.items (into_iter_items c.loop-group.group-iterator) left c.loop-group.pieces.items c.append.new.self.items c.in-Some.group c.in_ok-new.new steps.0 c.in_ok-new.was pushed c.loop-group.invariant.joined;
      count = omega (arith, steps.1, c.loop-group.invariant.count, ap length steps.0);
    }

pub returns-then-refused : goal.returns-then-refused
returns-then-refused c =
    let left = into_iter_items c.next.new.self in
    let steps : (into_iter_items c.loop-group.group-iterator ≡ c.in-Some.group ∷ left) × (into_iter_len c.next.new.self + 1 ≡ into_iter_len c.loop-group.group-iterator) = c.in-Some.ensures.steps in
    let pushed : c.append.new.self.items ≡ c.loop-group.pieces.items ++ c.in_ok-new.new.items = search rules in
    let ends : EndsRefused c.in_ok-new.new.items = subst EndsRefused c.deref.ensures.value (c.ends_refused-refused.ensures c.if-refused.true) in
    joined_to_refused c.args.groups.items (into_iter_items c.loop-group.group-iterator) left c.loop-group.pieces.items c.append.new.self.items c.in-Some.group c.in_ok-new.new steps.0 c.in_ok-new.was pushed c.loop-group.invariant.joined ends

pub returns : goal.returns
returns c =
    let steps : (into_iter_len c.loop-group.group-iterator ≡ 0) × (into_iter_len c.next.new.self ≡ 0) = c.in-None.ensures.steps in
    all_groups_joined c.args.groups.items (into_iter_items c.loop-group.group-iterator) c.loop-group.pieces.items (sym c.loop-group.invariant.count ∙ steps.0) c.loop-group.invariant.joined
