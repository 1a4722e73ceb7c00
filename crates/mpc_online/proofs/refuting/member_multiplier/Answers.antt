use Rattle.std.proofs.Common.{◌≡◌, ◌<◌, length, get_or, sym, ◌∙◌, arith}
use Rattle.mpc_space.proofs.Outcomes.{below_next}
use Rattle.mpc_online.proofs.Filled.{entry_read}
use Rattle.mpc_online.proofs.MultiplierLists.{multiplier_at, multiplier_none, member_is}
use Rattle.mpc_online.proofs.refuting.member_multiplier.Goals as goal

pub loop-index-preserved : goal.loop-index-preserved
loop-index-preserved c =
    below_next (λ j. get_or c.args.set j 0 ≡ c.args.row_number → ⊥) c.loop-index.index c.loop-index.invariant
    (λ e. c.if-member-row_number.false (member_is c.loop-index.index c.member.result c.args.set c.member.ensures.value ∙ e))

pub returns : goal.returns
returns c =
    c.whole.ensures ∙ sym (multiplier_none c.args.set c.args.changes.now c.args.row_number c.requires (λ j h. c.loop-index.invariant j (omega (arith, h, c.loop-index-test.false, c.size-index-end.ensures.value))))

pub returns-then-member-row_number : goal.returns-then-member-row_number
returns-then-member-row_number c =
    let in_set : c.loop-index.index < length c.args.set = omega (arith, c.loop-index-test.true, c.size-index-end.ensures.value) in
    entry_read c.args.changes.now c.loop-index.index c.index-changes-index.result (omega (arith, in_set, c.requires)) c.index-changes-index.is
    ∙ sym (multiplier_at c.args.set c.args.changes.now c.args.row_number c.loop-index.index c.requires in_set (sym (member_is c.loop-index.index c.member.result c.args.set c.member.ensures.value) ∙ c.if-member-row_number.true) c.loop-index.invariant)
