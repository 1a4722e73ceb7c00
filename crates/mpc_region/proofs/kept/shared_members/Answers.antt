use Rattle.std.proofs.Common.{◌≡◌, ◌+◌, ◌-◌, ◌<◌, length, take, get_or, refl, sym, ◌∙◌, ap, subst, arith}
use Rattle.std.proofs.lemmas.List.{take_more_same}
use Rattle.mpc_region.proofs.kept.shared_members.Goals as goal

pub loop-index-init : goal.loop-index-init
loop-index-init c = refl

pub loop-index-preserved : goal.loop-index-preserved
loop-index-preserved c =
    let place : c.loop-index.index + 1 - 1 ≡ c.loop-index.index = omega arith in
    let one : c.loop-index.index < length c.args.one = omega arith in
    let other : c.loop-index.index < length c.args.other = omega arith in
    take_more_same c.args.one c.args.other c.loop-index.index 0 one other c.loop-index.invariant
    (ap (λ k. get_or c.args.one k 0) (sym place) ∙ sym c.member.ensures.value ∙ c.if-member.false ∙ c.member-in-loop-index.ensures.value ∙ ap (λ k. get_or c.args.other k 0) place)

pub returns-then-member-clause-alike : goal.returns-then-member-clause-alike
returns-then-member-clause-alike c = c.loop-index.invariant

pub returns-clause-alike : goal.returns-clause-alike
returns-clause-alike c =
    let end : c.loop-index.index ≡ c.min-most.result = omega arith in
    subst (λ k. take k c.args.one ≡ take k c.args.other) end c.loop-index.invariant
