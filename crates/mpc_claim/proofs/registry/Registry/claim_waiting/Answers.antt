use Rattle.std.proofs.Common.{◌≡◌, ◌+◌, ◌<◌, ◌≤◌, ◌∙◌, length, false, vec_capacity, subst, sym, ap, arith}
use Rattle.std.specs.Prelude.{Any}
use Rattle.mpc_claim.specs.declared.candidates.Candidate.{Candidate}
use Rattle.mpc_claim.specs.declared.candidates.Slot.TheVariants.{Waiting}
use Rattle.mpc_claim.specs.declared.events.Phase.{Phase}
use Rattle.mpc_claim.specs.declared.events.Phase.TheVariants.{Working}
use Rattle.mpc_claim.specs.Board.{Board, sets_of}
use Rattle.mpc_claim.specs.Entries.{seen}
use Rattle.mpc_claim.specs.Books.{HasPhase, IsKept}
use Rattle.mpc_claim.specs.History.{has_drop}
use Rattle.mpc_claim.specs.Answers.{IsRefused}
use Rattle.mpc_claim.proofs.Ends.{wants_claim, refused}
use Rattle.mpc_claim.proofs.Lists.{length-sets_of}
use Rattle.mpc_claim.proofs.Seen.{length-seen, set_seen, seen-claim, verdicts_roomier, verdicts_after_claim}
use Rattle.mpc_claim.proofs.Steps.{few_candidates, kept_roomier, kept_claim}
use Rattle.mpc_claim.proofs.NextLevels.{some_waiting}
use Rattle.mpc_claim.proofs.Jobs.{gives_waiting}
use Rattle.mpc_claim.proofs.registry.Registry.claim_waiting.Goals as goal

pub invariant_of-self : goal.invariant_of-self
invariant_of-self c =
    let e = c.in_err-reserve_claims.ensures in
    rw (e.history, e.verdicts) (kept_roomier _ _ _ _ _ _ _ _ _ _ c.self.invariant.0 e.history_room, verdicts_roomier _ _ _ _ _ _ c.self.invariant.1 e.verdicts_room)

pub returns-in_err-reserve_claims : goal.returns-in_err-reserve_claims
returns-in_err-reserve_claims c =
    let r = c.self.inside in
    let working : r.phase ≡ Working = ap (λ (b : Board). b.phase) c.self.view_is ∙ c.requires.working in
    let p : r.claims < length (seen r.verdicts.items r.entries.items) = some_waiting _ _ _ _ _ _ c.self.invariant.0.slots (subst (λ (b : Board). Any (λ (d : Candidate). d.slot ≡ Waiting) b.candidates) (sym c.self.view_is) c.requires.waiting) in
    let fits : has_drop r.history.items ≡ false = subst (HasPhase r.program (seen r.verdicts.items r.entries.items) r.history.items) working c.self.invariant.0.phase_fits in
    let wanted : IsRefused c.args.self.now = subst IsRefused c.self.view_is (record { working = working; wants = wants_claim r.program (seen r.verdicts.items r.entries.items) r.settled r.claims r.pending r.size r.history.items c.self.invariant.0.lineup c.self.invariant.0.slots fits p }) in
    refused c.args.self.now _ c.args.worker c.from_residual.result c.from_residual.ensures.0 (rw (c.in_err-reserve_claims.ensures.history, c.in_err-reserve_claims.ensures.verdicts) c.self.view_is) wanted

pub note_claim-ticket-requires-clause-in_range : goal.note_claim-ticket-requires-clause-in_range
note_claim-ticket-requires-clause-in_range c =
    let r = c.self.inside in
    let working : r.phase ≡ Working = ap (λ (b : Board). b.phase) c.self.view_is ∙ c.requires.working in
    let p : r.claims < length (seen r.verdicts.items r.entries.items) = some_waiting _ _ _ _ _ _ c.self.invariant.0.slots (subst (λ (b : Board). Any (λ (d : Candidate). d.slot ≡ Waiting) b.candidates) (sym c.self.view_is) c.requires.waiting) in
    let many = length-seen r.verdicts.items r.entries.items in
    let counted = r.entries.ok in
    omega arith

pub note_claim-ticket-requires-clause-number : goal.note_claim-ticket-requires-clause-number
note_claim-ticket-requires-clause-number c =
    let r = c.self.inside in
    let working : r.phase ≡ Working = ap (λ (b : Board). b.phase) c.self.view_is ∙ c.requires.working in
    let p : r.claims < length (seen r.verdicts.items r.entries.items) = some_waiting _ _ _ _ _ _ c.self.invariant.0.slots (subst (λ (b : Board). Any (λ (d : Candidate). d.slot ≡ Waiting) b.candidates) (sym c.self.view_is) c.requires.waiting) in
    let few = few_candidates c.count_theorems.ensures.six_of_sixty r.program (sets_of (seen r.verdicts.items r.entries.items)) c.self.invariant.0.lineup.in_order c.self.invariant.0.lineup.candidates in
    let many = length-sets_of (seen r.verdicts.items r.entries.items) in
    omega (arith, few, many)

pub invariant_of-self-2 : goal.invariant_of-self-2
invariant_of-self-2 c =
    let r = c.self.inside in
    let working : r.phase ≡ Working = ap (λ (b : Board). b.phase) c.self.view_is ∙ c.requires.working in
    let p : r.claims < length (seen r.verdicts.items r.entries.items) = some_waiting _ _ _ _ _ _ c.self.invariant.0.slots (subst (λ (b : Board). Any (λ (d : Candidate). d.slot ≡ Waiting) b.candidates) (sym c.self.view_is) c.requires.waiting) in
    let room : length r.history.items + (r.pending + 2) ≤ vec_capacity c.reserve_claims.new.history = (let counted = r.history.ok in let later = c.reserve_claims.new.history.ok in let fit = c.in_ok-reserve_claims.ensures.events_fit in let same = ap length c.in_ok-reserve_claims.ensures.history in omega arith) in
    let more : length r.verdicts.items + (r.pending + 1) ≤ vec_capacity c.reserve_claims.new.verdicts = (let later = c.reserve_claims.new.verdicts.ok in let fit = c.in_ok-reserve_claims.ensures.verdicts_fit in let same = ap length c.in_ok-reserve_claims.ensures.verdicts in omega arith) in
    let e = c.note_claim-ticket.ensures in (
      rw (e.mark, e.event, e.capacity, c.in_ok-reserve_claims.ensures.history, c.in_ok-reserve_claims.ensures.verdicts, working, seen-claim r.verdicts.items r.entries.items r.claims (r.claims + 1), ← set_seen r.verdicts.items r.entries.items r.claims)
          (kept_claim r.program (seen r.verdicts.items r.entries.items) r.settled r.claims r.pending r.size r.history.items c.args.worker (vec_capacity r.history) (vec_capacity c.reserve_claims.new.history) (subst (λ (f : Phase). IsKept r.program (seen r.verdicts.items r.entries.items) r.settled r.claims r.pending r.size f r.history.items (vec_capacity r.history)) working c.self.invariant.0) p room),
      rw (e.mark, c.in_ok-reserve_claims.ensures.verdicts) (verdicts_after_claim _ _ _ _ _ c.self.invariant.1 r.claims (r.claims + 1) _ more),
    )

pub returns : goal.returns
returns c =
    let r = c.self.inside in
    let working : r.phase ≡ Working = ap (λ (b : Board). b.phase) c.self.view_is ∙ c.requires.working in
    let p : r.claims < length (seen r.verdicts.items r.entries.items) = some_waiting _ _ _ _ _ _ c.self.invariant.0.slots (subst (λ (b : Board). Any (λ (d : Candidate). d.slot ≡ Waiting) b.candidates) (sym c.self.view_is) c.requires.waiting) in
    let room : length r.history.items + (r.pending + 2) ≤ vec_capacity c.reserve_claims.new.history = (let counted = r.history.ok in let later = c.reserve_claims.new.history.ok in let fit = c.in_ok-reserve_claims.ensures.events_fit in let same = ap length c.in_ok-reserve_claims.ensures.history in omega arith) in
    let e = c.note_claim-ticket.ensures in
    let here = set_seen r.verdicts.items r.entries.items r.claims in
    rw (← c.self.view_is, e.mark, e.event, c.in_ok-reserve_claims.ensures.history, c.in_ok-reserve_claims.ensures.verdicts, working, seen-claim r.verdicts.items r.entries.items r.claims (r.claims + 1), ← here)
    (gives_waiting r.program (seen r.verdicts.items r.entries.items) r.settled r.claims r.pending r.size r.history.items c.args.worker (vec_capacity r.history) (vec_capacity c.reserve_claims.new.history) c.note_claim-ticket.result
    (subst (λ (f : Phase). IsKept r.program (seen r.verdicts.items r.entries.items) r.settled r.claims r.pending r.size f r.history.items (vec_capacity r.history)) working c.self.invariant.0) p room e.number_is e.worker_is (e.set_is ∙ sym here))
