use Rattle.std.proofs.Common.{◌≡◌, ◌∷◌, ◌++◌, ◌+◌, sym, ◌∙◌, ap, length, arith, rules}
use Rattle.std.specs.Vec.Iter.{into_iter_items, into_iter_len}
use Rattle.mpc_check.proofs.BorderLemmas.{one_more_part, all_joined}
use Rattle.mpc_check.proofs.borders.joined.Goals as goal

pub loop-part-preserved : goal.loop-part-preserved
loop-part-preserved c =
    let left = into_iter_items c.next.new.self in
    let steps : (into_iter_items c.loop-part.part-iterator ≡ c.in-Some.part ∷ left) × (into_iter_len c.next.new.self + 1 ≡ into_iter_len c.loop-part.part-iterator) = c.in-Some.ensures.steps in
    let pushed : c.append.new.self.items ≡ c.loop-part.borders.items ++ c.in_ok-more.more.items = search rules in
    record {
      joined = one_more_part c.args.parts.items (into_iter_items c.loop-part.part-iterator) left c.loop-part.borders.items c.append.new.self.items c.in-Some.part c.in_ok-more.more steps.0 c.in_ok-more.was pushed c.loop-part.invariant.joined;
      count = omega (arith, steps.1, c.loop-part.invariant.count, ap length steps.0);
    }

pub returns : goal.returns
returns c =
    let steps : (into_iter_len c.loop-part.part-iterator ≡ 0) × (into_iter_len c.next.new.self ≡ 0) = c.in-None.ensures.steps in
    all_joined c.args.parts.items (into_iter_items c.loop-part.part-iterator) c.loop-part.borders.items (sym c.loop-part.invariant.count ∙ steps.0) c.loop-part.invariant.joined
