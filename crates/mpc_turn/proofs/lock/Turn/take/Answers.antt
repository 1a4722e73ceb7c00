use Rattle.std.proofs.Common.{rules, arith, ◌∙◌, sym, ap}
use Rattle.mpc_turn.specs.Lock.{Sat}
use Rattle.mpc_turn.proofs.Keeps.{looks_as, takes_turn}
use Rattle.mpc_turn.proofs.lock.Turn.take.Goals as goal

pub load-now-requires : goal.load-now-requires
load-now-requires g c =
    let d = c.draw-mine.ensures.drawn in
    let is = c.loop.invariant.me ∙ d.1 in
    let parts = ap (λ (m : Sat). m.0.parts) is in
    let alive = c.requires.idle.2 in (
      c.loop.invariant.table ∙ (c.draw-mine.ensures.turn ∙ sym c.self.view_is),
      search rules,
      looks_as _ _ c.loop.seat.me d.0 (ap (λ (m : Sat). m.0.number) is) (ap (λ (m : Sat). m.0.turn) is ∙ c.requires.idle.0.1) (omega (arith, parts, alive)) (ap (λ (m : Sat). m.1) is ∙ c.requires.idle.1),
    )

pub returns-then-now-mine-clause-taken : goal.returns-then-now-mine-clause-taken
returns-then-now-mine-clause-taken g c =
    let d = c.draw-mine.ensures.drawn in
    takes_turn c.args.seat.now.me c.loop.seat.me c.load-now.new.seat.me d.0 c.load-now.result (c.loop.invariant.me ∙ d.1) c.requires.idle.1 (c.if-now-mine.true ∙ d.2) c.load-now.ensures.2
