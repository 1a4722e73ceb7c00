use Rattle.std.proofs.Common.{rules, arith, ◌∙◌, sym, ap}
use Rattle.mpc_turn.specs.Lock.{Sat}
use Rattle.mpc_turn.specs.Known.{Known}
use Rattle.mpc_turn.proofs.Lending.{joins, compares_as}
use Rattle.mpc_turn.proofs.Calls.{joined_pass, not_first}
use Rattle.mpc_turn.proofs.lock.Turn.join_pass.Goals as goal

pub join_seat-requires : goal.join_seat-requires
join_seat-requires c =
    let i = c.first.invariant in
    let o = c.other.invariant in
    (ap (λ (k : Known). k.turn) c.first.view_is ∙ (c.requires.turn.0 ∙ sym c.self.view_is), ap (λ (k : Known). k.turn) c.other.view_is ∙ (c.requires.turn.1 ∙ sym c.self.view_is), o.empty, search rules, joins _ _ _ _ i.idle o.idle i.living)

pub load-requires : goal.load-requires
load-requires c =
    let i = c.first.invariant in
    let j = c.join_seat.ensures in
    let parts = ap (λ (m : Sat). m.0.parts) j.2 in
    let alive = i.living in
    (j.0 ∙ (ap (λ (k : Known). k.turn) c.first.view_is ∙ (c.requires.turn.0 ∙ sym c.self.view_is)), search rules, compares_as c.history_theorems.ensures.legal_beginnings _ _ _ (ap (λ (m : Sat). m.0.number) j.2 ∙ i.idle.0, ap (λ (m : Sat). m.0.turn) j.2 ∙ i.idle.1) (omega (arith, parts, alive)))

pub invariant_of-first : goal.invariant_of-first
invariant_of-first c =
    joined_pass _ _ c.first.invariant _ _ _ _ 0 c.other.invariant (ap (λ (k : Known). k.first) c.first.view_is ∙ c.requires.first) c.join_seat.ensures.2 c.load.ensures.2

pub returns-clause-other : goal.returns-clause-other
returns-clause-other c =
    sym (ap (λ (k : Known). k.first) c.other.view_is)
    ∙ not_first _ _ c.first.inside.seat.me _ _ _ 0 c.first.invariant c.other.invariant (ap (λ (k : Known). k.first) c.first.view_is ∙ c.requires.first) c.join_seat.ensures.2 c.load.ensures.2
