use Rattle.std.proofs.Common.{◌≡◌, ◌<◌, ◌∙◌, ℕ, length, vec_capacity, true, subst, sym, ap, refl, inr}
use Rattle.mpc_claim.specs.declared.events.Phase.{Phase}
use Rattle.mpc_claim.specs.declared.events.Phase.TheVariants.{Working}
use Rattle.mpc_claim.specs.Board.{Board, at}
use Rattle.mpc_claim.specs.Books.{is_done, IsKept}
use Rattle.mpc_claim.specs.Entries.{seen}
use Rattle.mpc_claim.specs.Levels.{IsFirstBadPlace}
use Rattle.mpc_claim.proofs.Ends.{kept_stopped, ends_wide}
use Rattle.mpc_claim.proofs.registry.Registry.end_level.Goals as goal

pub invariant_of-self : goal.invariant_of-self
invariant_of-self c =
    let r = c.self.inside in
    let working : r.phase ≡ Working = ap (λ (b : Board). b.phase) c.self.view_is ∙ c.requires.working in
    let done = subst (λ (b : Board). (i : ℕ) → i < length b.candidates → is_done (at b.candidates i).slot ≡ true) (sym c.self.view_is) c.requires.done in
    let first : IsFirstBadPlace (seen r.verdicts.items r.entries.items) r.settled c.in-Some.field-0 = rw (c.deref.ensures.value, c.deref-2.ensures.value) at c.in-Some.ensures.first in (
      kept_stopped r.program (seen r.verdicts.items r.entries.items) r.settled r.claims r.pending r.size r.history.items (vec_capacity r.history) c.in-Some.field-0
          (subst (λ (f : Phase). IsKept r.program (seen r.verdicts.items r.entries.items) r.settled r.claims r.pending r.size f r.history.items (vec_capacity r.history)) working c.self.invariant.0) done first,
      c.self.invariant.1,
    )

pub returns-in-Some : goal.returns-in-Some
returns-in-Some c =
    let r = c.self.inside in
    let working : r.phase ≡ Working = ap (λ (b : Board). b.phase) c.self.view_is ∙ c.requires.working in
    let done = subst (λ (b : Board). (i : ℕ) → i < length b.candidates → is_done (at b.candidates i).slot ≡ true) (sym c.self.view_is) c.requires.done in
    let first : IsFirstBadPlace (seen r.verdicts.items r.entries.items) r.settled c.in-Some.field-0 = rw (c.deref.ensures.value, c.deref-2.ensures.value) at c.in-Some.ensures.first in
    rw (← c.self.view_is) (
      refl,
      inr (ends_wide r.program (seen r.verdicts.items r.entries.items) r.settled r.claims r.pending r.size r.history.items (vec_capacity r.history) c.in-Some.field-0
          (subst (λ (f : Phase). IsKept r.program (seen r.verdicts.items r.entries.items) r.settled r.claims r.pending r.size f r.history.items (vec_capacity r.history)) working c.self.invariant.0) done first),
    )
