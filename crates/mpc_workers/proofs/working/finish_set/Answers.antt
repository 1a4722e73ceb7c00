use Rattle.std.proofs.Common.{◌∙◌, refl, sym, subst, true≢false}
use Rattle.mpc_rows.specs.declared.programs.Qp.{Qp}
use Rattle.mpc_rows.specs.Verdicts.{IsRight}
use Rattle.mpc_claim.specs.declared.events.EventKind.TheVariants.{Done, Drop}
use Rattle.mpc_claim.specs.Board.{tag_of}
use Rattle.mpc_workers.proofs.Hands.{ended_pass, its_few, its_hand, its_program, its_rows, its_turn, then_answered}
use Rattle.mpc_workers.proofs.working.finish_set.Goals as goal

pub examine-requires-clause-set_of_rows : goal.examine-requires-clause-set_of_rows
examine-requires-clause-set_of_rows g c = its_rows c.args.number c.args.turn.now c.args.qp.now c.args.ticket c.args.post.now c.requires.post c.claim_theorems.ensures.candidates

pub examine-requires-clause-few : goal.examine-requires-clause-few
examine-requires-clause-few g c = its_few c.args.number c.args.turn.now c.args.qp.now c.args.ticket c.args.post.now c.requires.post c.claim_theorems.ensures.candidates

pub abandon_as-requires-clause-turn : goal.abandon_as-requires-clause-turn
abandon_as-requires-clause-turn g c = its_turn c.args.number c.args.turn.now c.args.qp.now c.args.ticket c.args.post.now c.requires.post

pub abandon_as-requires-clause-hand : goal.abandon_as-requires-clause-hand
abandon_as-requires-clause-hand g c = its_hand c.args.number c.args.turn.now c.args.qp.now c.args.ticket c.args.post.now c.requires.post c.hand_theorems.ensures.in_hand

pub returns-in-Err-clause-err : goal.returns-in-Err-clause-err
returns-in-Err-clause-err g c = record {
  pass = ended_pass c.args.number c.args.turn.now c.args.qp.now c.args.ticket c.args.post.now c.requires.post c.hand_theorems.ensures.claimed c.hand_theorems.ensures.ended Drop refl c.abandon_as.new.pass c.abandon_as.ensures;
  kept = λ no. absurd (true≢false no);
  ended = λ e. absurd (true≢false (sym e ∙ c.requires.post.working));
}

pub deliver_then_claim_as-answer-requires-clause-turn : goal.deliver_then_claim_as-answer-requires-clause-turn
deliver_then_claim_as-answer-requires-clause-turn g c = its_turn c.args.number c.args.turn.now c.args.qp.now c.args.ticket c.args.post.now c.requires.post

pub deliver_then_claim_as-answer-requires-clause-hand : goal.deliver_then_claim_as-answer-requires-clause-hand
deliver_then_claim_as-answer-requires-clause-hand g c = its_hand c.args.number c.args.turn.now c.args.qp.now c.args.ticket c.args.post.now c.requires.post c.hand_theorems.ensures.in_hand

pub deliver_then_claim_as-answer-requires-clause-right : goal.deliver_then_claim_as-answer-requires-clause-right
deliver_then_claim_as-answer-requires-clause-right g c =
    subst (λ (q : Qp). IsRight q c.args.ticket.set c.in-Ok.judged.verdict) (sym (its_program c.args.number c.args.turn.now c.args.qp.now c.args.ticket c.args.post.now c.requires.post)) c.in-Ok.ensures.right

pub taken-requires-clause-answered : goal.taken-requires-clause-answered
taken-requires-clause-answered g c =
    let both = c.deliver_then_claim_as-answer.ensures in
    then_answered c.args.number c.args.turn.now c.args.qp.now c.args.ticket c.args.post.now c.requires.post c.hand_theorems.ensures.claimed c.hand_theorems.ensures.ended (Done (tag_of c.in-Ok.judged.verdict)) refl both.0 both.1 refl c.deliver_then_claim_as-answer.result c.deliver_then_claim_as-answer.new.pass both.2
