use Rattle.std.proofs.Common.{◌∙◌, ap, sym}
use Rattle.mpc_claim.specs.declared.events.EventKind.TheVariants.{Done}
use Rattle.mpc_claim.specs.Board.{Board, tag_of}
use Rattle.mpc_turn.specs.Known.{MayDeliver, EndsBy}
use Rattle.mpc_turn.proofs.Slot.{carries, lent, leaves}
use Rattle.mpc_turn.proofs.lock.Turn.deliver_in.Goals as goal

pub slot_mut-registry-requires : goal.slot_mut-registry-requires
slot_mut-registry-requires c = (c.requires.turn ∙ sym c.self.view_is, carries c.args.seat.now.me.1 (MayDeliver c.args.ticket c.args.judged.verdict) c.requires.taken)

pub deliver-answer-requires-clause-right : goal.deliver-answer-requires-clause-right
deliver-answer-requires-clause-right c = (lent c.args.seat.now.me.1 c.slot_mut-registry.result.now (MayDeliver c.args.ticket c.args.judged.verdict) c.requires.taken c.slot_mut-registry.ensures.value).1

pub deliver-answer-requires-clause-open_still : goal.deliver-answer-requires-clause-open_still
deliver-answer-requires-clause-open_still c = (lent c.args.seat.now.me.1 c.slot_mut-registry.result.now (MayDeliver c.args.ticket c.args.judged.verdict) c.requires.taken c.slot_mut-registry.ensures.value).0

pub returns-clause-ended : goal.returns-clause-ended
returns-clause-ended c =
    let e = c.deliver-answer.ensures in
    leaves c.args.seat.now.me.1 c.slot_mut-registry.result.now c.deliver-answer.new.self (MayDeliver c.args.ticket c.args.judged.verdict) (EndsBy c.args.ticket (Done (tag_of c.args.judged.verdict))) c.requires.taken c.slot_mut-registry.ensures.value (ap (λ (b : Board). b.program) e, ap (λ (b : Board). b.history) e, c.history-history.ensures.sound.legal)
