use Rattle.std.proofs.Common.{◌≡◌, ◌<◌, ◌≤◌, ◌-◌, ◌∙◌, length, vec_capacity, subst, sym, ap, refl, arith}
use Rattle.mpc_claim.specs.Board.{Board, sets_of}
use Rattle.mpc_claim.specs.Entries.{mark_of, seen}
use Rattle.mpc_claim.specs.History.{IsOpen}
use Rattle.mpc_rows.specs.Verdicts.{IsRight}
use Rattle.mpc_claim.proofs.Lists.{length-sets_of}
use Rattle.mpc_claim.proofs.Seen.{length-seen, seen-delivered, verdicts_after_delivery}
use Rattle.mpc_claim.proofs.Steps.{few_candidates, kept_deliver, history_room, place_within, some_pending}
use Rattle.mpc_claim.proofs.registry.Registry.deliver.Goals as goal

pub push_reserved-requires : goal.push_reserved-requires
push_reserved-requires c =
    let room : length c.self.inside.history.items < vec_capacity c.self.inside.history = history_room _ _ _ _ _ _ _ _ _ c.args.ticket (c.args.ticket.number - 1) refl c.self.invariant.0 (subst (λ (b : Board). IsOpen b.history c.args.ticket) (sym c.self.view_is) c.requires.open_still) in
    let counted = c.self.inside.history.ok in
    omega arith

pub overflow_sub-self : goal.overflow_sub-self
overflow_sub-self c = some_pending _ _ _ _ _ _ _ _ _ c.args.ticket (c.args.ticket.number - 1) refl c.self.invariant.0 (subst (λ (b : Board). IsOpen b.history c.args.ticket) (sym c.self.view_is) c.requires.open_still)

pub keep-mark-requires-clause-number : goal.keep-mark-requires-clause-number
keep-mark-requires-clause-number c =
    let r = c.self.inside in
    let lineup = c.self.invariant.0.lineup in
    let most = few_candidates c.count_theorems.ensures.six_of_sixty r.program (sets_of (seen r.verdicts.items r.entries.items)) lineup.in_order lineup.candidates in
    let many = length-sets_of (seen r.verdicts.items r.entries.items) in
    let within = c.self.invariant.0.slots.within in
    let few = c.self.invariant.1.few in
    let counted = r.verdicts.ok in
    omega (arith, most, many)

pub keep-mark-requires-clause-room : goal.keep-mark-requires-clause-room
keep-mark-requires-clause-room c =
    let r = c.self.inside in
    let some : 1 ≤ r.pending = some_pending _ _ _ _ _ _ _ _ _ c.args.ticket (c.args.ticket.number - 1) refl c.self.invariant.0 (subst (λ (b : Board). IsOpen b.history c.args.ticket) (sym c.self.view_is) c.requires.open_still) in
    let room = c.self.invariant.1.room in
    let counted = r.verdicts.ok in
    omega arith

pub index_mut-requires : goal.index_mut-requires
index_mut-requires c =
    let r = c.self.inside in
    let within = place_within _ _ _ _ _ _ _ _ _ c.args.ticket (c.args.ticket.number - 1) refl c.self.invariant.0 (subst (λ (b : Board). IsOpen b.history c.args.ticket) (sym c.self.view_is) c.requires.open_still) in
    let many = length-seen r.verdicts.items r.entries.items in
    let counted = r.entries.ok in
    omega arith

pub invariant_of-self : goal.invariant_of-self
invariant_of-self c =
    let r = c.self.inside in
    let i = c.args.ticket.number - 1 in
    let v = c.into_verdict-verdict.result in
    let right : IsRight r.program c.args.ticket.set v =
    subst (IsRight r.program c.args.ticket.set) (sym c.into_verdict-verdict.ensures) (subst (λ (b : Board). IsRight b.program c.args.ticket.set c.args.judged.verdict) (sym c.self.view_is) c.requires.right) in
    let some : 1 ≤ r.pending = some_pending _ _ _ _ _ _ _ _ _ c.args.ticket i refl c.self.invariant.0 (subst (λ (b : Board). IsOpen b.history c.args.ticket) (sym c.self.view_is) c.requires.open_still) in
    let mark : c.keep-mark.result ≡ mark_of (length r.verdicts.items) v = c.keep-mark.ensures.mark ∙ ap (λ n. mark_of n v) r.verdicts.ok.0 in (
      rw (c.push_reserved.ensures.items, c.push_reserved.ensures.capacity, c.tag.ensures, mark, c.keep-mark.ensures.verdicts, seen-delivered r.verdicts.items r.entries.items i c.args.ticket.set v c.self.invariant.1.within)
          (kept_deliver _ _ _ _ _ _ _ _ _ c.args.ticket i refl c.self.invariant.0 (subst (λ (b : Board). IsOpen b.history c.args.ticket) (sym c.self.view_is) c.requires.open_still) v right),
      rw (mark, c.keep-mark.ensures.verdicts, c.keep-mark.ensures.capacity) (verdicts_after_delivery _ _ _ _ _ c.self.invariant.1 i c.args.ticket.set v some),
    )

pub returns : goal.returns
returns c =
    let r = c.self.inside in
    let i = c.args.ticket.number - 1 in
    let v = c.into_verdict-verdict.result in
    let mark : c.keep-mark.result ≡ mark_of (length r.verdicts.items) v = c.keep-mark.ensures.mark ∙ ap (λ n. mark_of n v) r.verdicts.ok.0 in
    rw (← c.self.view_is, ← c.into_verdict-verdict.ensures, c.push_reserved.ensures.items, c.tag.ensures, mark, c.keep-mark.ensures.verdicts, seen-delivered r.verdicts.items r.entries.items i c.args.ticket.set v c.self.invariant.1.within) refl
