use Rattle.std.proofs.Common.{◌∙◌, sym}
use Rattle.mpc_claim.specs.declared.events.EventKind.TheVariants.{Drop}
use Rattle.mpc_turn.proofs.Calls.{turn_opens, end_due, end_pass, end_is}
use Rattle.mpc_turn.proofs.lock.Turn.abandon_as.Goals as goal

pub abandon_in-answer-requires-clause-taken : goal.abandon_in-answer-requires-clause-taken
abandon_in-answer-requires-clause-taken g c =
    let o = turn_opens c.legal_theorems.ensures.open_list c.legal_theorems.ensures.appended c.pass.inside.seat.table_id c.pass.inside.worker c.pass.inside.seat.me.0 _ _ _ c.pass.view_is c.requires.hand c.take.ensures.taken in
    (o.0, o.1, o.2.0)

pub serve-requires-clause-taken : goal.serve-requires-clause-taken
serve-requires-clause-taken g c =
    end_due _ c.pass.inside.seat.table_id _ _ _ _ c.take.new.seat.me _ c.pass.view_is c.pass.invariant c.take.ensures.taken c.abandon_in-answer.ensures.view c.args.ticket Drop c.requires.hand c.abandon_in-answer.ensures.ended

pub invariant_of-pass : goal.invariant_of-pass
invariant_of-pass g c =
    end_pass _ c.pass.inside.seat.table_id _ _ _ _ _ _ c.pass.view_is c.pass.invariant c.take.ensures.taken c.abandon_in-answer.ensures.view c.args.ticket Drop c.requires.hand c.abandon_in-answer.ensures.ended c.serve.ensures.gave

pub returns : goal.returns
returns g c =
    end_is _ _ _ _ _ _ _ _ c.pass.view_is c.pass.invariant c.take.ensures.taken c.abandon_in-answer.ensures.view c.args.ticket Drop c.requires.hand c.abandon_in-answer.ensures.ended c.serve.ensures.gave (c.serve.ensures.turn ∙ sym c.requires.turn)
