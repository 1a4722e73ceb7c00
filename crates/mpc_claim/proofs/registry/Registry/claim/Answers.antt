use Rattle.std.proofs.Common.{◌≡◌, ◌<◌, ◌≤◌, ◌∙◌, ◌⊎◌, ℕ, length, false, true, subst, sym, ap, refl, arith, inl, inr}
use Rattle.std.specs.Prelude.{Any}
use Rattle.mpc_claim.specs.declared.candidates.Candidate.{Candidate}
use Rattle.mpc_claim.specs.declared.candidates.Slot.TheVariants.{Waiting}
use Rattle.mpc_claim.specs.declared.events.Phase.{Phase}
use Rattle.mpc_claim.specs.Board.{Board, at}
use Rattle.mpc_claim.specs.History.{has_drop, EndsWide}
use Rattle.mpc_claim.specs.Books.{is_done, HasPhase, HasBad}
use Rattle.mpc_claim.specs.Answers.{FindsIdle}
use Rattle.mpc_claim.specs.Entries.{seen}
use Rattle.mpc_claim.proofs.Seen.{length-seen}
use Rattle.mpc_claim.proofs.Slots.{all_done}
use Rattle.mpc_claim.proofs.Sound.{shown_finished, shown_wide}
use Rattle.mpc_claim.proofs.NextLevels.{waiting_at}
use Rattle.mpc_claim.proofs.Ends.{idle}
use Rattle.mpc_claim.proofs.registry.Registry.claim.Goals as goal

pub returns-in-Finished : goal.returns-in-Finished
returns-in-Finished c =
    let r = c.self.inside in
    let fits = subst (HasPhase r.program (seen r.verdicts.items r.entries.items) r.history.items) c.in-Finished.is c.self.invariant.0.phase_fits in
    rw (← c.self.view_is) (
      λ i. record { program = r.program; candidates = seen r.verdicts.items r.entries.items; settled = r.settled; phase = c.in-Finished.is i; history = r.history.items },
      shown_finished r.program (seen r.verdicts.items r.entries.items) r.settled r.claims r.pending r.size r.history.items c.self.invariant.0.slots fits,
    )

pub returns-in-Stopped : goal.returns-in-Stopped
returns-in-Stopped c =
    let r = c.self.inside in
    let fits : (has_drop r.history.items ≡ true) ⊎ HasBad (seen r.verdicts.items r.entries.items) r.history.items = subst (HasPhase r.program (seen r.verdicts.items r.entries.items) r.history.items) c.in-Stopped.is c.self.invariant.0.phase_fits in
    let ends : (has_drop r.history.items ≡ true) ⊎ EndsWide r.program r.history.items = elim fits [
      | inl d ↦ inl d
      | inr b ↦ inr (shown_wide r.program (seen r.verdicts.items r.entries.items) r.settled r.claims r.pending r.size r.history.items c.self.invariant.0.lineup c.self.invariant.0.slots b)
    ] in
    rw (← c.self.view_is)
    (λ i. record { program = r.program; candidates = seen r.verdicts.items r.entries.items; settled = r.settled; phase = c.in-Stopped.is i; history = r.history.items }, ends)

pub claim_waiting-requires-clause-waiting : goal.claim_waiting-requires-clause-waiting
claim_waiting-requires-clause-waiting c =
    let r = c.self.inside in
    let counted = r.entries.ok in let seen_many = length-seen r.verdicts.items r.entries.items in
    let long = c.len.ensures in
    let less = c.if-self-len.true in
    let p : r.claims < length (seen r.verdicts.items r.entries.items) = omega arith in
    subst (λ (b : Board). Any (λ (d : Candidate). d.slot ≡ Waiting) b.candidates) c.self.view_is (waiting_at r.program (seen r.verdicts.items r.entries.items) r.settled r.claims r.pending r.history.items c.self.invariant.0.slots p)

pub returns-then-self-gt0 : goal.returns-then-self-gt0
returns-then-self-gt0 c =
    let r = c.self.inside in
    let counted = r.entries.ok in let seen_many = length-seen r.verdicts.items r.entries.items in
    let long = c.len.ensures in
    let more = c.if-self-len.false in
    let some = c.if-self-gt0.true in
    let p : length (seen r.verdicts.items r.entries.items) ≤ r.claims = omega arith in
    let fits : has_drop r.history.items ≡ false = subst (HasPhase r.program (seen r.verdicts.items r.entries.items) r.history.items) c.in-Working.is c.self.invariant.0.phase_fits in (
      refl,
      subst FindsIdle (ap (λ (f : Phase). record { program = r.program; candidates = seen r.verdicts.items r.entries.items; settled = r.settled; phase = f; history = r.history.items }) (sym c.in-Working.is) ∙ c.self.view_is)
          (record { working = refl; idle = idle r.program (seen r.verdicts.items r.entries.items) r.settled r.claims r.pending r.size r.history.items c.self.invariant.0.lineup c.self.invariant.0.slots fits p (omega arith) }),
    )

pub end_level-requires-clause-done : goal.end_level-requires-clause-done
end_level-requires-clause-done c =
    let r = c.self.inside in
    let counted = r.entries.ok in let seen_many = length-seen r.verdicts.items r.entries.items in
    let long = c.len.ensures in
    let more = c.if-self-len.false in
    let none = c.if-self-gt0.false in
    let p : length (seen r.verdicts.items r.entries.items) ≤ r.claims = omega arith in
    let fits : has_drop r.history.items ≡ false = subst (HasPhase r.program (seen r.verdicts.items r.entries.items) r.history.items) c.in-Working.is c.self.invariant.0.phase_fits in
    subst (λ (b : Board). (i : ℕ) → i < length b.candidates → is_done (at b.candidates i).slot ≡ true) c.self.view_is
    (λ i q. all_done r.program (seen r.verdicts.items r.entries.items) r.settled r.claims r.pending r.history.items c.self.invariant.0.slots (omega arith) fits i (omega arith))
