use Rattle.std.proofs.Common.{◌∙◌, List, [], ◌∷◌, ◌++◌, sym, ap, subst}
use Rattle.mpc_claim.specs.Board.{Board}
use Rattle.atomic_table.specs.Table.{opening}
use Rattle.mpc_turn.specs.Views.{first_view}
use Rattle.mpc_turn.specs.Lock.{Kept}
use Rattle.mpc_turn.proofs.Lending.{opens}
use Rattle.mpc_turn.proofs.Slot.{first_is_pass}
use Rattle.mpc_turn.proofs.lock.Turn.over.Goals as goal

pub new-requires : goal.new-requires
new-requires c =
    let h = c.in-Ok.ensures.items ∙ ap (λ l. l ++ c.args.registry ∷ []) c.new-slots.ensures.items in
    subst (λ (z : List Board × Board). Kept (opening (0 ∷ 0 ∷ []) z.0 (first_view z.1))) (λ i. (sym h i, sym c.of-about.ensures i)) (opens c.args.registry c.history-history.ensures.sound.legal)

pub invariant_of-result-2 : goal.invariant_of-result-2
invariant_of-result-2 c =
    first_is_pass c.args.registry c.in-Ok-new.seat.me c.history-history.ensures.sound.legal (c.in-Ok-new.ensures.ok.4 ∙ ap (λ (b : Board). (first_view b, [])) c.of-about.ensures)
