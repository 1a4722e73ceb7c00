use Rattle.std.proofs.Common.{◌≡◌, ◌++◌, ◌∷◌, [], ◌∙◌, Option, None, Some, length, sym, ap, subst}
use Rattle.mpc_claim.specs.declared.tickets.Ticket.{Ticket}
use Rattle.mpc_claim.specs.Board.{Board}
use Rattle.mpc_claim.specs.Hands.{HoldsOpen, emptied}
use Rattle.mpc_claim.proofs.Emptied.{last_open, held_less, held_front, emptied_some, emptied_none}
use Rattle.mpc_claim.proofs.worlds.World.into_registry.Goals as goal

pub abandon-requires : goal.abandon-requires
abandon-requires c =
    let rest : c.hands.hands.items ≡ c.pop.new.self.items ++ Some c.in-Some-hand.ticket ∷ [] = c.in-Some.ensures.items ∙ ap (λ (u : Option Ticket). c.pop.new.self.items ++ u ∷ []) c.in-Some-hand.is in
    let held = subst (HoldsOpen c.hands.registry.program c.hands.registry.history) rest c.hands.invariant.held in
    (held.held (length c.pop.new.self.items) c.in-Some-hand.ticket (last_open c.hands.registry.program c.hands.registry.history c.pop.new.self.items c.in-Some-hand.ticket held)).open_still

pub hands-preserved-in-Some-hand : goal.hands-preserved-in-Some-hand
hands-preserved-in-Some-hand c =
    let rest : c.hands.hands.items ≡ c.pop.new.self.items ++ Some c.in-Some-hand.ticket ∷ [] = c.in-Some.ensures.items ∙ ap (λ (u : Option Ticket). c.pop.new.self.items ++ u ∷ []) c.in-Some-hand.is in
    let held = subst (HoldsOpen c.hands.registry.program c.hands.registry.history) rest c.hands.invariant.held in
    record {
      held = subst (λ (b : Board). HoldsOpen b.program b.history c.pop.new.self.items) (sym c.abandon.ensures) (held_less c.hands.registry.program c.hands.registry.history c.pop.new.self.items c.in-Some-hand.ticket held);
      same = ap (λ (b : Board). emptied b c.pop.new.self.items) c.abandon.ensures ∙ sym (emptied_some c.hands.registry c.pop.new.self.items c.in-Some-hand.ticket) ∙ ap (emptied c.hands.registry) (sym rest) ∙ c.hands.invariant.same;
    }

pub hands-preserved : goal.hands-preserved
hands-preserved c =
    let rest : c.hands.hands.items ≡ c.pop.new.self.items ++ None ∷ [] = c.in-Some.ensures.items ∙ ap (λ (u : Option Ticket). c.pop.new.self.items ++ u ∷ []) c.in-None.is in
    record {
      held = held_front c.hands.registry.program c.hands.registry.history c.pop.new.self.items None (subst (HoldsOpen c.hands.registry.program c.hands.registry.history) rest c.hands.invariant.held);
      same = sym (emptied_none c.hands.registry c.pop.new.self.items) ∙ ap (emptied c.hands.registry) (sym rest) ∙ c.hands.invariant.same;
    }
