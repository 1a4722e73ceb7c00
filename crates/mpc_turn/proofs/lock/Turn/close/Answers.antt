use Rattle.std.proofs.Common.{Bool, cond, ◌-◌, arith, ◌≡◌, ◌∙◌, ap, subst}
use Rattle.mpc_turn.specs.Known.{Known, Closed}
use Rattle.mpc_turn.proofs.Calls.{closed_of, ends_of}
use Rattle.mpc_turn.proofs.lock.Turn.close.Goals as goal

pub returns : goal.returns
returns c =
    let i = c.first.invariant in
    let lent : 33 - c.first.inside.seat.me.0.parts ≡ 0 = subst (λ (b : Bool). cond b (33 - c.first.inside.seat.me.0.parts) 0 ≡ 0) (ap (λ (k : Known). k.first) c.first.view_is ∙ c.requires.first) (ap (λ (k : Known). k.lent) c.first.view_is ∙ c.requires.none_lent) in
    let most = i.most in
    subst (λ (k : Known). Closed k c.take-registry.result) c.first.view_is
    (closed_of c.legal_theorems.ensures.open_list c.legal_theorems.ensures.claims _ _ _ _ c.history-history.ensures.sound (ends_of c.first.inside.seat.id c.first.inside.seat.me.0 _ _ c.close_with-closed.ensures.values.2 (omega (arith, lent, most)) i.idle c.take-registry.result c.take-registry.ensures.value))
