use Rattle.std.proofs.Common.{◌≡◌, ℕ, List, ◌+◌, ◌-◌, ◌<◌, ◌≤◌, length, get_or, sym, ◌∙◌, ap, subst, arith}
use Rattle.mpc_space.proofs.Outcomes.{below_next}
use Rattle.mpc_online.proofs.SetLists.{place_is}
use Rattle.mpc_online.proofs.moves.place_of.Goals as goal

member_is : (k r : ℕ) (s : List ℕ) → r ≡ get_or s (k + 1 - 1) 0 → r ≡ get_or s k 0
member_is k r s e = let place : k + 1 - 1 ≡ k = omega arith in e ∙ ap (λ j. get_or s j 0) place

pub returns-clause-value : goal.returns-clause-value
returns-clause-value c =
    let last : c.loop-index.index ≡ length c.args.set = omega (arith, c.loop-index-test.false, c.loop-index.auto.index-end, c.size-index-end.ensures.value) in
    c.size.ensures.value ∙ sym last
    ∙ sym (place_is c.args.row c.loop-index.index c.args.set (omega arith) c.loop-index.invariant (λ l. absurd (omega arith)))

pub loop-index-preserved : goal.loop-index-preserved
loop-index-preserved c =
    below_next (λ j. get_or c.args.set j 0 < c.args.row) c.loop-index.index c.loop-index.invariant
    (subst (λ m. m < c.args.row) (member_is c.loop-index.index c.member.result c.args.set c.member.ensures.value) c.if-member-row.false)

pub returns-then-member-row-clause-value : goal.returns-then-member-row-clause-value
returns-then-member-row-clause-value c =
    sym (place_is c.args.row c.loop-index.index c.args.set (omega (arith, c.loop-index-test.true, c.size-index-end.ensures.value)) c.loop-index.invariant
    (λ l. subst (λ m. c.args.row ≤ m) (member_is c.loop-index.index c.member.result c.args.set c.member.ensures.value) c.if-member-row.true))
