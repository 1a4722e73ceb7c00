use Rattle.std.proofs.Common.{◌≡◌, ◌∙◌, sym}
use Rattle.mpc_turn.specs.Known.{LooksAt}
use Rattle.mpc_turn.proofs.Slot.{carries, leaves}
use Rattle.mpc_turn.proofs.lock.Turn.look_ahead_in.Goals as goal

pub slot_mut-registry-requires : goal.slot_mut-registry-requires
slot_mut-registry-requires c = (c.requires.turn ∙ sym c.self.view_is, carries c.args.seat.now.me.1 (λ r. r ≡ r) c.requires.taken)

pub returns-clause-looked : goal.returns-clause-looked
returns-clause-looked c =
    leaves c.args.seat.now.me.1 c.slot_mut-registry.result.now c.look_ahead-answer.new.self (λ r. r ≡ r) (LooksAt c.look_ahead-answer.result) c.requires.taken c.slot_mut-registry.ensures.value (c.look_ahead-answer.ensures.same, c.history-history.ensures.sound.legal, c.look_ahead-answer.ensures.candidates)
