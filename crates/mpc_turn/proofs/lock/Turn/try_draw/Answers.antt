use Rattle.std.proofs.Common.{rules, ◌∙◌, refl, sym}
use Rattle.mpc_turn.proofs.Keeps.{draws}
use Rattle.mpc_turn.proofs.lock.Turn.try_draw.Goals as goal

pub compare_exchange-found-requires : goal.compare_exchange-found-requires
compare_exchange-found-requires c = (c.requires.turn ∙ sym c.self.view_is, search rules, draws _ _ _ _ _ refl c.requires.idle.0 c.requires.idle.1)
