use Rattle.std.proofs.Common.{◌≡◌, ◌∙◌, ◌⊎◌, ◌<◌, ◌≤◌, ℕ, length, false, true, sym, subst, ap, inl, inr, arith}
use Rattle.std.proofs.lemmas.Bool.{cases_lt}
use Rattle.mpc_claim.specs.declared.candidates.Slot.TheVariants.{Done}
use Rattle.mpc_claim.specs.declared.events.Phase.TheVariants.{Stopped}
use Rattle.mpc_claim.specs.Board.{Board, at}
use Rattle.mpc_claim.specs.Entries.{seen}
use Rattle.mpc_claim.specs.History.{has_drop}
use Rattle.mpc_claim.specs.Books.{is_bad, HasPhase, HasBad}
use Rattle.mpc_claim.specs.Levels.{IsFirstBadPlace}
use Rattle.mpc_claim.specs.Answers.{IsFirstBad, IsLeastBad}
use Rattle.mpc_claim.proofs.Ends.{first_bad_shown, only_bad}
use Rattle.mpc_claim.proofs.Seen.{length-seen, kept_here}
use Rattle.mpc_claim.proofs.registry.Registry.first_bad.Goals as goal

pub returns-in_err-place-clause-none : goal.returns-in_err-place-clause-none
returns-in_err-place-clause-none c =
    let r = c.self.inside in
    let none : (i : ℕ) → r.settled ≤ i → i < length r.entries.items → is_bad (at (seen r.verdicts.items r.entries.items) i).slot ≡ false = rw (c.deref.ensures.value, c.deref-2.ensures.value) at c.in_err-place.ensures.none in
    let many = length-seen r.verdicts.items r.entries.items in
    rw (c.from_residual.ensures, ← c.self.view_is) (λ i p. elim (cases_lt i r.settled) [ inl l ↦ (c.self.invariant.0.slots.quiet i l).not_bad | inr m ↦ none i m (omega arith) ])

first_place : (c : goal.After-index-in-Kept) → IsFirstBadPlace (seen c.self.inside.verdicts.items c.self.inside.entries.items) c.self.inside.settled c.in_ok-place.place
first_place c = rw (c.deref.ensures.value, c.deref-2.ensures.value) at c.in_ok-place.ensures.first

slot_there : (c : goal.After-index-in-Kept) → (at (seen c.self.inside.verdicts.items c.self.inside.entries.items) c.in_ok-place.place).slot ≡ Done c.index-in-Kept.result.now
slot_there c =
    let r = c.self.inside in
    let many = length-seen r.verdicts.items r.entries.items in
    let within : c.in_ok-place.place < length r.entries.items = (let p = (first_place c).in_range in omega arith) in
    kept_here r.verdicts.items r.entries.items c.in_ok-place.place c.index.result.now c.in-Kept.kept c.index-in-Kept.result.now c.self.invariant.1.within within c.index.ensures c.in-Kept.is c.index-in-Kept.ensures

pub returns-in-Kept-clause-least : goal.returns-in-Kept-clause-least
returns-in-Kept-clause-least c =
    let r = c.self.inside in
    let first = first_place c in
    subst (λ (b : Board). IsLeastBad b c.index-in-Kept.result.now) c.self.view_is
    (record {
      place = c.in_ok-place.place;
      in_range = first.in_range;
      slot_is = slot_there c;
      wide = sym (ap is_bad (slot_there c)) ∙ first.bad;
      before = λ i p. elim (cases_lt i r.settled) [ inl l ↦ (c.self.invariant.0.slots.quiet i l).not_bad | inr m ↦ first.before i m p ];
    })

pub returns-in-Kept-clause-stopped : goal.returns-in-Kept-clause-stopped
returns-in-Kept-clause-stopped c = λ stopped no_drop.
    let r = c.self.inside in
    let s : r.phase ≡ Stopped = ap (λ (b : Board). b.phase) c.self.view_is ∙ stopped in
    let none : has_drop r.history.items ≡ false = ap (λ (b : Board). has_drop b.history) c.self.view_is ∙ no_drop in
    let fits : (has_drop r.history.items ≡ true) ⊎ HasBad (seen r.verdicts.items r.entries.items) r.history.items = subst (HasPhase r.program (seen r.verdicts.items r.entries.items) r.history.items) s c.self.invariant.0.phase_fits in
    subst (λ (b : Board). IsFirstBad b.program c.index-in-Kept.result.now) c.self.view_is
    (first_bad_shown r.program (seen r.verdicts.items r.entries.items) r.settled r.claims r.pending r.size r.history.items c.in_ok-place.place c.index-in-Kept.result.now c.self.invariant.0.lineup c.self.invariant.0.slots (only_bad (seen r.verdicts.items r.entries.items) r.history.items none fits) (first_place c) (slot_there c))
