use Rattle.std.proofs.Common.{◌∙◌, refl, sym, subst, true≢false}
use Rattle.mpc_rows.specs.declared.programs.Qp.{Qp}
use Rattle.mpc_rows.specs.Verdicts.{IsRight}
use Rattle.mpc_claim.specs.declared.events.EventKind.TheVariants.{Done}
use Rattle.mpc_claim.specs.Board.{tag_of}
use Rattle.mpc_workers.proofs.Hands.{ended_kept, ended_pass, its_hand, its_program, its_turn}
use Rattle.mpc_workers.proofs.working.deliver.Goals as goal

pub deliver_as-requires-clause-turn : goal.deliver_as-requires-clause-turn
deliver_as-requires-clause-turn g c = its_turn c.args.number c.args.turn.now c.args._qp.now c.args.ticket c.args.post.now c.requires.post

pub deliver_as-requires-clause-hand : goal.deliver_as-requires-clause-hand
deliver_as-requires-clause-hand g c = its_hand c.args.number c.args.turn.now c.args._qp.now c.args.ticket c.args.post.now c.requires.post c.hand_theorems.ensures.in_hand

pub deliver_as-requires-clause-right : goal.deliver_as-requires-clause-right
deliver_as-requires-clause-right g c =
    subst (λ (q : Qp). IsRight q c.args.ticket.set c.args.judged.verdict) (sym (its_program c.args.number c.args.turn.now c.args._qp.now c.args.ticket c.args.post.now c.requires.post)) c.requires.right

pub returns-clause-post : goal.returns-clause-post
returns-clause-post g c =
    let kind = Done (tag_of c.args.judged.verdict) in
    record {
      pass = ended_pass c.args.number c.args.turn.now c.args._qp.now c.args.ticket c.args.post.now c.requires.post c.hand_theorems.ensures.claimed c.hand_theorems.ensures.ended kind refl c.deliver_as.new.pass c.deliver_as.ensures;
      kept = ended_kept c.args.number c.args.turn.now c.args._qp.now c.args.ticket c.args.post.now c.requires.post c.hand_theorems.ensures.claimed c.hand_theorems.ensures.ended kind refl c.deliver_as.new.pass c.deliver_as.ensures refl;
      ended = λ e. absurd (true≢false (sym e ∙ c.requires.post.working));
    }
