use Rattle.std.proofs.Common.{◌∙◌, refl, sym, ap}
use Rattle.mpc_turn.specs.Lock.{Sat}
use Rattle.mpc_turn.proofs.Calls.{claim_due, claim_pass, claim_is}
use Rattle.mpc_turn.proofs.lock.Turn.claim_as.Goals as goal

pub claim_in-answer-requires-clause-taken : goal.claim_in-answer-requires-clause-taken
claim_in-answer-requires-clause-taken g c = let t = c.take.ensures.taken in (t.1, ap (λ (m : Sat). m.1) t.2, refl)

pub serve-requires-clause-taken : goal.serve-requires-clause-taken
serve-requires-clause-taken g c =
    claim_due _ c.pass.inside.seat.table_id _ _ _ _ c.take.new.seat.me _ c.pass.view_is c.pass.invariant c.take.ensures.taken c.claim_in-answer.ensures.view c.claim_in-answer.result c.claim_in-answer.ensures.claimed

pub invariant_of-pass : goal.invariant_of-pass
invariant_of-pass g c =
    claim_pass _ c.pass.inside.seat.table_id _ _ _ _ _ _ c.pass.view_is c.pass.invariant c.take.ensures.taken c.claim_in-answer.ensures.view c.claim_in-answer.result c.claim_in-answer.ensures.claimed c.serve.ensures.gave

pub returns : goal.returns
returns g c =
    claim_is _ _ _ _ _ _ _ _ c.pass.view_is c.pass.invariant c.take.ensures.taken c.claim_in-answer.ensures.view c.claim_in-answer.result c.claim_in-answer.ensures.claimed c.serve.ensures.gave (c.serve.ensures.turn ∙ sym c.requires)
