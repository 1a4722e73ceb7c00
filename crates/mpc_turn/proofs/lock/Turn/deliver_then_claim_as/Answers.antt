use Rattle.std.proofs.Common.{◌∙◌, refl, sym}
use Rattle.mpc_claim.specs.declared.events.EventKind.TheVariants.{Done}
use Rattle.mpc_claim.specs.Board.{tag_of}
use Rattle.mpc_turn.proofs.Calls.{turn_delivers, end_then_claim_due, end_then_claim_pass, end_then_claim_is}
use Rattle.mpc_turn.proofs.lock.Turn.deliver_then_claim_as.Goals as goal

pub deliver_in-requires-clause-taken : goal.deliver_in-requires-clause-taken
deliver_in-requires-clause-taken g c =
    turn_delivers c.legal_theorems.ensures.open_list c.legal_theorems.ensures.appended c.pass.inside.seat.table_id c.pass.inside.worker c.pass.inside.seat.me.0 _ _ _ _ c.pass.view_is c.requires.hand c.take.ensures.taken c.requires.right

pub claim_in-claimed-requires-clause-taken : goal.claim_in-claimed-requires-clause-taken
claim_in-claimed-requires-clause-taken g c = let d = c.deliver_in.ensures.ended.2 in (d.0, d.1, refl)

pub serve-requires-clause-taken : goal.serve-requires-clause-taken
serve-requires-clause-taken g c =
    end_then_claim_due _ c.pass.inside.seat.table_id _ _ _ _ c.take.new.seat.me _ c.pass.view_is c.pass.invariant c.take.ensures.taken (c.claim_in-claimed.ensures.view ∙ c.deliver_in.ensures.view) c.args.ticket (Done (tag_of c.args.judged.verdict)) c.requires.hand _ c.claim_in-claimed.result c.deliver_in.ensures.ended c.claim_in-claimed.ensures.claimed refl

pub invariant_of-pass : goal.invariant_of-pass
invariant_of-pass g c =
    end_then_claim_pass _ c.pass.inside.seat.table_id _ _ _ _ _ _ c.pass.view_is c.pass.invariant c.take.ensures.taken (c.claim_in-claimed.ensures.view ∙ c.deliver_in.ensures.view) c.args.ticket (Done (tag_of c.args.judged.verdict)) c.requires.hand _ c.claim_in-claimed.result c.deliver_in.ensures.ended c.claim_in-claimed.ensures.claimed c.serve.ensures.gave

pub returns : goal.returns
returns g c =
    end_then_claim_is _ _ _ _ _ _ _ _ c.pass.view_is c.pass.invariant c.take.ensures.taken (c.claim_in-claimed.ensures.view ∙ c.deliver_in.ensures.view) c.args.ticket (Done (tag_of c.args.judged.verdict)) c.requires.hand _ c.claim_in-claimed.result c.deliver_in.ensures.ended c.claim_in-claimed.ensures.claimed c.serve.ensures.gave (c.serve.ensures.turn ∙ sym c.requires.turn)
