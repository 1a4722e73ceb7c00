use Rattle.std.proofs.Common.{rules, ◌∙◌, sym}
use Rattle.mpc_turn.proofs.Keeps.{serves_as}
use Rattle.mpc_turn.proofs.lock.Turn.serve.Goals as goal

pub fetch_add-requires : goal.fetch_add-requires
fetch_add-requires c = let h = c.requires.taken in (c.requires.turn ∙ sym c.self.view_is, search rules, serves_as _ _ _ h.2.0 h.2.1 h.0 h.1 h.2.2)

pub returns-clause-gave : goal.returns-clause-gave
returns-clause-gave c = let h = c.requires.taken.2 in (h.0, h.1, c.fetch_add.ensures.2 h.0 h.1)
