use Rattle.std.proofs.Common.{◌≡◌, ◌∙◌, sym}
use Rattle.mpc_turn.specs.Known.{ClaimsBy}
use Rattle.mpc_turn.proofs.Slot.{carries, leaves}
use Rattle.mpc_turn.proofs.lock.Turn.claim_in.Goals as goal

pub slot_mut-registry-requires : goal.slot_mut-registry-requires
slot_mut-registry-requires c = (c.requires.turn ∙ sym c.self.view_is, carries c.args.seat.now.me.1 (λ r. r ≡ r) c.requires.taken)

pub returns-clause-claimed : goal.returns-clause-claimed
returns-clause-claimed c =
    leaves c.args.seat.now.me.1 c.slot_mut-registry.result.now c.claim-answer.new.self (λ r. r ≡ r) (ClaimsBy c.args.worker c.claim-answer.result) c.requires.taken c.slot_mut-registry.ensures.value (c.claim-answer.ensures, c.history-history.ensures.sound.legal)
