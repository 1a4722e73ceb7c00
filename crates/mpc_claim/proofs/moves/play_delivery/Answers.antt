use Rattle.std.proofs.Common.{◌≡◌, ◌∙◌, sym, subst}
use Rattle.mpc_rows.specs.Verdicts.{IsRight}
use Rattle.mpc_claim.specs.Moves.{HoldsSet}
use Rattle.mpc_claim.proofs.moves.play_delivery.Goals as goal

pub deliver-requires-clause-open_still : goal.deliver-requires-clause-open_still
deliver-requires-clause-open_still c = c.requires.open_still c.in-Some.ticket (sym c.take.ensures.value ∙ c.in-Some.is)

pub deliver-requires-clause-right : goal.deliver-requires-clause-right
deliver-requires-clause-right c =
    let held : HoldsSet c.args.hand.now c.set.result = c.holds.ensures.0 c.if-not-holds.false in
    let same : c.in-Some.ticket.set ≡ c.args.judged.set = subst (λ o. HoldsSet o c.set.result) (sym c.take.ensures.value ∙ c.in-Some.is) held ∙ c.set.ensures in
    subst (λ s. IsRight c.args.registry.now.program s c.args.judged.verdict) (sym same) c.requires.right
