use Rattle.std.proofs.Common.{◌∙◌, refl, sym, ap}
use Rattle.mpc_turn.specs.Lock.{Sat}
use Rattle.mpc_turn.proofs.Calls.{look_due, look_pass, look_looks, look_candidates}
use Rattle.mpc_turn.proofs.lock.Turn.look_ahead_as.Goals as goal

pub look_ahead_in-answer-requires-clause-taken : goal.look_ahead_in-answer-requires-clause-taken
look_ahead_in-answer-requires-clause-taken g c = let t = c.take.ensures.taken in (t.1, ap (λ (m : Sat). m.1) t.2, refl)

pub serve-requires-clause-taken : goal.serve-requires-clause-taken
serve-requires-clause-taken g c =
    look_due _ c.pass.inside.seat.table_id _ _ _ _ c.take.new.seat.me _ c.pass.view_is c.pass.invariant c.take.ensures.taken c.look_ahead_in-answer.ensures.view c.look_ahead_in-answer.result c.look_ahead_in-answer.ensures.looked

pub invariant_of-pass : goal.invariant_of-pass
invariant_of-pass g c =
    look_pass _ c.pass.inside.seat.table_id _ _ _ _ _ _ c.pass.view_is c.pass.invariant c.take.ensures.taken c.look_ahead_in-answer.ensures.view c.look_ahead_in-answer.result c.look_ahead_in-answer.ensures.looked c.serve.ensures.gave

pub returns-clause-looked : goal.returns-clause-looked
returns-clause-looked g c =
    look_looks _ _ _ _ _ _ _ _ c.pass.view_is c.pass.invariant c.take.ensures.taken c.look_ahead_in-answer.ensures.view c.look_ahead_in-answer.result c.look_ahead_in-answer.ensures.looked c.serve.ensures.gave (c.serve.ensures.turn ∙ sym c.requires)

pub returns-clause-candidates : goal.returns-clause-candidates
returns-clause-candidates g c =
    look_candidates _ c.pass.inside.seat.table_id _ _ _ _ _ _ c.pass.view_is c.pass.invariant c.take.ensures.taken c.look_ahead_in-answer.ensures.view c.look_ahead_in-answer.result c.look_ahead_in-answer.ensures.looked c.serve.ensures.gave
