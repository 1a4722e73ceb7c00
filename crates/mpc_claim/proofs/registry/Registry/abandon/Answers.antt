use Rattle.std.proofs.Common.{◌<◌, ◌-◌, length, vec_capacity, subst, sym, refl, arith}
use Rattle.mpc_claim.specs.Board.{Board}
use Rattle.mpc_claim.specs.History.{IsOpen}
use Rattle.mpc_claim.specs.declared.entries.Mark.TheVariants.{Dropped}
use Rattle.mpc_claim.specs.Entries.{entry}
use Rattle.mpc_claim.proofs.Seen.{seen-set, verdicts_after_abandonment}
use Rattle.mpc_claim.proofs.Steps.{kept_abandon, history_room, some_pending}
use Rattle.mpc_claim.proofs.registry.Registry.abandon.Goals as goal

pub push_reserved-requires : goal.push_reserved-requires
push_reserved-requires c =
    let room : length c.self.inside.history.items < vec_capacity c.self.inside.history = history_room _ _ _ _ _ _ _ _ _ c.args.ticket (c.args.ticket.number - 1) refl c.self.invariant.0 (subst (λ (b : Board). IsOpen b.history c.args.ticket) (sym c.self.view_is) c.requires) in
    let counted = c.self.inside.history.ok in
    omega arith

pub overflow_sub-self : goal.overflow_sub-self
overflow_sub-self c = some_pending _ _ _ _ _ _ _ _ _ c.args.ticket (c.args.ticket.number - 1) refl c.self.invariant.0 (subst (λ (b : Board). IsOpen b.history c.args.ticket) (sym c.self.view_is) c.requires)

pub invariant_of-self : goal.invariant_of-self
invariant_of-self c =
    let r = c.self.inside in
    let i = c.args.ticket.number - 1 in (
      rw (c.push_reserved.ensures.items, c.push_reserved.ensures.capacity, seen-set r.verdicts.items r.entries.items i (entry c.args.ticket.set Dropped))
          (kept_abandon _ _ _ _ _ _ _ _ _ c.args.ticket i refl c.self.invariant.0 (subst (λ (b : Board). IsOpen b.history c.args.ticket) (sym c.self.view_is) c.requires)),
      verdicts_after_abandonment _ _ _ _ _ c.self.invariant.1 i c.args.ticket.set,
    )

pub returns : goal.returns
returns c =
    let r = c.self.inside in
    rw (← c.self.view_is, c.push_reserved.ensures.items, seen-set r.verdicts.items r.entries.items (c.args.ticket.number - 1) (entry c.args.ticket.set Dropped)) refl
