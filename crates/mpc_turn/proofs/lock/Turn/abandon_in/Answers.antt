use Rattle.std.proofs.Common.{◌∙◌, ap, sym}
use Rattle.mpc_claim.specs.declared.events.EventKind.TheVariants.{Drop}
use Rattle.mpc_claim.specs.Board.{Board}
use Rattle.mpc_claim.specs.History.{IsOpen}
use Rattle.mpc_turn.specs.Known.{EndsBy}
use Rattle.mpc_turn.proofs.Slot.{carries, lent, leaves}
use Rattle.mpc_turn.proofs.lock.Turn.abandon_in.Goals as goal

pub slot_mut-registry-requires : goal.slot_mut-registry-requires
slot_mut-registry-requires c = (c.requires.turn ∙ sym c.self.view_is, carries c.args.seat.now.me.1 (λ r. IsOpen r.history c.args.ticket) c.requires.taken)

pub abandon-answer-requires : goal.abandon-answer-requires
abandon-answer-requires c = lent c.args.seat.now.me.1 c.slot_mut-registry.result.now (λ r. IsOpen r.history c.args.ticket) c.requires.taken c.slot_mut-registry.ensures.value

pub returns-clause-ended : goal.returns-clause-ended
returns-clause-ended c =
    let e = c.abandon-answer.ensures in
    leaves c.args.seat.now.me.1 c.slot_mut-registry.result.now c.abandon-answer.new.self (λ r. IsOpen r.history c.args.ticket) (EndsBy c.args.ticket Drop) c.requires.taken c.slot_mut-registry.ensures.value (ap (λ (b : Board). b.program) e, ap (λ (b : Board). b.history) e, c.history-history.ensures.sound.legal)
