use Rattle.std.proofs.Common.{rules, sym, ◌∙◌, ◌++◌, ◌∷◌, [], arith, get_or, pos, FitsSigned}
use Rattle.std.specs.Int.{w64, w128}
use Rattle.std.proofs.lemmas.Int.{to_z-of_z}
use Rattle.std.proofs.lemmas.List.{take_more, take_all}
use Rattle.mpc_beginnings.proofs.lists.put_widened.Goals as goal

pub loop-j-preserved : goal.loop-j-preserved
loop-j-preserved c =
    let f : FitsSigned w64 (get_or c.args.numbers.now c.loop-j.j (pos 0)) = search rules in
    let g : FitsSigned w128 c.widened.result = search rules in
    c.in_ok-push.ensures.items ∙ (λ i. c.loop-j.invariant i ++ (to_z-of_z w128 _ g ∙ c.widened.ensures ∙ to_z-of_z w64 _ f) i ∷ []) ∙ sym (take_more c.args.numbers.now c.loop-j.j (pos 0) c.loop-j-test.true)

pub returns : goal.returns
returns c = c.loop-j.invariant ∙ take_all c.loop-j.j c.args.numbers.now (let t = c.loop-j-test.false in omega arith)
