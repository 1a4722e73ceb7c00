use Rattle.std.proofs.Common.{◌≡◌, ◌+◌, ◌<◌, ◌≤◌, ◌∙◌, ℕ, suc, [], ◌++◌, map, length, false, vec_len, vec_capacity, subst, sym, ap, refl, inr, arith}
use Rattle.std.proofs.lemmas.Bool.{eqb-true}
use Rattle.mpc_claim.specs.declared.events.Phase.{Phase}
use Rattle.mpc_claim.specs.declared.events.Phase.TheVariants.{Working}
use Rattle.mpc_claim.specs.Board.{Board, at, sets_of, waiting}
use Rattle.mpc_claim.specs.Books.{HasPhase, IsKept, IsQuiet}
use Rattle.mpc_claim.specs.History.{has_drop}
use Rattle.mpc_claim.specs.Answers.{IsRefused}
use Rattle.mpc_claim.specs.Entries.{entry_at, seen, unclaimed}
use Rattle.mpc_claim.specs.Levels.{HoldsCandidates}
use Rattle.mpc_claim.proofs.Lists.{length-sets_of}
use Rattle.mpc_claim.proofs.Seen.{length-seen, set_seen, seen-claim, seen-drop, seen-level, verdicts_roomier, verdicts_after_claim, verdicts_after_level}
use Rattle.mpc_claim.proofs.Steps.{few_candidates, kept_roomier}
use Rattle.mpc_claim.proofs.Sound.{shown_finished}
use Rattle.mpc_claim.proofs.NextLevels.{level_is_level, level_grows, kept_finished, all_claimed}
use Rattle.mpc_claim.proofs.Ends.{whole_rest, nil_of, positive, small_size, ends_quiet, refused}
use Rattle.mpc_claim.proofs.Jobs.{gives_next, kept_next}
use Rattle.mpc_claim.proofs.registry.Registry.claim_in_next_level.Goals as goal

pub next_candidates-requires-clause-level : goal.next_candidates-requires-clause-level
next_candidates-requires-clause-level c =
    let r = c.self.inside in
    rw (c.deref.ensures.value, c.deref-2.ensures.value, whole_rest r.entries.items r.settled, seen-drop r.verdicts.items r.settled r.entries.items)
    (level_is_level r.program (seen r.verdicts.items r.entries.items) r.settled r.claims r.pending r.size r.history.items c.self.invariant.0.lineup)

pub next_candidates-requires-clause-grown : goal.next_candidates-requires-clause-grown
next_candidates-requires-clause-grown c =
    let r = c.self.inside in
    let quiet = subst (λ (b : Board). (i : ℕ) → i < length b.candidates → IsQuiet (at b.candidates i).slot) (sym c.self.view_is) c.requires.quiet in
    let all : r.claims ≡ length (seen r.verdicts.items r.entries.items) = all_claimed _ _ _ _ _ _ c.self.invariant.0.slots (λ i p. (quiet i p).done) in
    rw (c.deref.ensures.value, c.deref-2.ensures.value, whole_rest r.entries.items r.settled, seen-drop r.verdicts.items r.settled r.entries.items)
    (level_grows r.program (seen r.verdicts.items r.entries.items) r.settled r.claims r.pending r.size r.history.items c.self.invariant.0.lineup c.self.invariant.0.slots (omega arith) quiet)

pub invariant_of-self : goal.invariant_of-self
invariant_of-self c =
    let r = c.self.inside in
    let working : r.phase ≡ Working = ap (λ (b : Board). b.phase) c.self.view_is ∙ c.requires.working in
    let quiet = subst (λ (b : Board). (i : ℕ) → i < length b.candidates → IsQuiet (at b.candidates i).slot) (sym c.self.view_is) c.requires.quiet in
    let empty : vec_len c.in_ok-sets.sets ≡ 0 = eqb-true (vec_len c.in_ok-sets.sets) 0 (sym c.is_empty.ensures ∙ c.if-is_empty.true) in
    let none : c.in_ok-sets.sets.items ≡ [] = nil_of c.in_ok-sets.sets.items (let counted = c.in_ok-sets.sets.ok in omega arith) in (
      kept_finished c.member_theorems.ensures r.program (seen r.verdicts.items r.entries.items) r.settled r.claims r.pending r.size r.history.items (vec_capacity r.history)
          (subst (λ (f : Phase). IsKept r.program (seen r.verdicts.items r.entries.items) r.settled r.claims r.pending r.size f r.history.items (vec_capacity r.history)) working c.self.invariant.0) quiet
          (subst (HoldsCandidates r.program (suc r.size)) none c.in_ok-sets.ensures),
      c.self.invariant.1,
    )

pub returns-then-is_empty : goal.returns-then-is_empty
returns-then-is_empty c =
    let r = c.self.inside in
    let k = (invariant_of-self c).0 in
    rw (← c.self.view_is) (refl, shown_finished r.program (seen r.verdicts.items r.entries.items) r.settled r.claims r.pending r.size r.history.items k.slots k.phase_fits)

pub note_claim-ticket-requires-clause-number : goal.note_claim-ticket-requires-clause-number
note_claim-ticket-requires-clause-number c =
    let r = c.self.inside in
    let few = few_candidates c.count_theorems.ensures.six_of_sixty r.program (sets_of (seen r.verdicts.items r.entries.items)) c.self.invariant.0.lineup.in_order c.self.invariant.0.lineup.candidates in
    let many = length-sets_of (seen r.verdicts.items r.entries.items) in
    let counted = r.entries.ok in let seen_many = length-seen r.verdicts.items r.entries.items in
    let place = c.len-place.ensures in
    omega (arith, few, many)

pub overflow_add-self : goal.overflow_add-self
overflow_add-self c =
    let r = c.self.inside in
    let some = positive (vec_len c.in_ok-sets.sets) (sym c.is_empty.ensures ∙ c.if-is_empty.false) in
    let counted = c.in_ok-sets.sets.ok in
    let small = small_size r.program r.size c.in_ok-sets.sets.items c.in_ok-sets.ensures (omega arith) in
    omega (arith, small)

pub invariant_of-self-2 : goal.invariant_of-self-2
invariant_of-self-2 c =
    let r = c.self.inside in
    let working : r.phase ≡ Working = ap (λ (b : Board). b.phase) c.self.view_is ∙ c.requires.working in
    let quiet = subst (λ (b : Board). (i : ℕ) → i < length b.candidates → IsQuiet (at b.candidates i).slot) (sym c.self.view_is) c.requires.quiet in
    let all : r.claims ≡ length (seen r.verdicts.items r.entries.items) = all_claimed _ _ _ _ _ _ c.self.invariant.0.slots (λ i p. (quiet i p).done) in
    let some : 0 < length c.in_ok-sets.sets.items = (let p = positive (vec_len c.in_ok-sets.sets) (sym c.is_empty.ensures ∙ c.if-is_empty.false) in let counted = c.in_ok-sets.sets.ok in omega arith) in
    let some_events : 0 < c.len.result = (let counted = c.in_ok-sets.sets.ok in let long = c.len.ensures in omega arith) in
    let room : length r.history.items + (r.pending + 2) ≤ vec_capacity c.reserve_claims.new.history = (let counted = r.history.ok in let later = c.reserve_claims.new.history.ok in let fit = c.in_ok-reserve_claims.ensures.events_fit in let same = ap length c.in_ok-reserve_claims.ensures.history in omega arith) in
    let place : c.len-place.result ≡ r.claims = (let counted = r.entries.ok in let seen_many = length-seen r.verdicts.items r.entries.items in let p = c.len-place.ensures in omega arith) in
    let e = c.note_claim-ticket.ensures in
    let vs = r.verdicts.items in
    let es = r.entries.items in
    let sets = c.in_ok-sets.sets.items in
    let more : length vs + (r.pending + 1) ≤ vec_capacity c.reserve_claims.new.verdicts = (let later = c.reserve_claims.new.verdicts.ok in let fit = c.in_ok-reserve_claims.ensures.verdicts_fit in let same = ap length c.in_ok-reserve_claims.ensures.verdicts in omega arith) in (
      rw (e.mark, e.event, e.capacity, c.in_ok-reserve_claims.ensures.history, c.in_ok-reserve_claims.ensures.verdicts, working, c.in_ok-append_waiting.ensures.ok, c.deref-3.ensures.value, place, seen-claim vs (es ++ map unclaimed sets) r.claims (r.claims + 1), ← set_seen vs (es ++ map unclaimed sets) r.claims, seen-level vs es sets)
          (kept_next r.program (seen r.verdicts.items r.entries.items) c.in_ok-sets.sets.items r.settled r.claims r.pending r.size r.history.items c.args.worker (vec_capacity r.history) (vec_capacity c.reserve_claims.new.history) c.note_claim-ticket.result
          (subst (λ (f : Phase). IsKept r.program (seen r.verdicts.items r.entries.items) r.settled r.claims r.pending r.size f r.history.items (vec_capacity r.history)) working c.self.invariant.0) all quiet c.in_ok-sets.ensures some room),
      rw (e.mark, c.in_ok-append_waiting.ensures.ok, c.deref-3.ensures.value, c.in_ok-reserve_claims.ensures.verdicts, place)
          (verdicts_after_claim _ _ _ _ _ (verdicts_after_level _ _ _ _ _ c.self.invariant.1 sets) r.claims (r.claims + 1) _ more),
    )

pub returns : goal.returns
returns c =
    let r = c.self.inside in
    let working : r.phase ≡ Working = ap (λ (b : Board). b.phase) c.self.view_is ∙ c.requires.working in
    let quiet = subst (λ (b : Board). (i : ℕ) → i < length b.candidates → IsQuiet (at b.candidates i).slot) (sym c.self.view_is) c.requires.quiet in
    let all : r.claims ≡ length (seen r.verdicts.items r.entries.items) = all_claimed _ _ _ _ _ _ c.self.invariant.0.slots (λ i p. (quiet i p).done) in
    let some : 0 < length c.in_ok-sets.sets.items = (let p = positive (vec_len c.in_ok-sets.sets) (sym c.is_empty.ensures ∙ c.if-is_empty.false) in let counted = c.in_ok-sets.sets.ok in omega arith) in
    let some_events : 0 < c.len.result = (let counted = c.in_ok-sets.sets.ok in let long = c.len.ensures in omega arith) in
    let room : length r.history.items + (r.pending + 2) ≤ vec_capacity c.reserve_claims.new.history = (let counted = r.history.ok in let later = c.reserve_claims.new.history.ok in let fit = c.in_ok-reserve_claims.ensures.events_fit in let same = ap length c.in_ok-reserve_claims.ensures.history in omega arith) in
    let place : c.len-place.result ≡ r.claims = (let counted = r.entries.ok in let seen_many = length-seen r.verdicts.items r.entries.items in let p = c.len-place.ensures in omega arith) in
    let vs = r.verdicts.items in
    let es = r.entries.items in
    let sets = c.in_ok-sets.sets.items in
    let appended : c.append_waiting.new.entries.items ≡ es ++ map unclaimed sets = c.in_ok-append_waiting.ensures.ok ∙ ap (λ u. es ++ map unclaimed u) c.deref-3.ensures.value in
    let e = c.note_claim-ticket.ensures in
    let number : c.note_claim-ticket.result.number ≡ r.claims + 1 = e.number_is ∙ ap (λ n. n + 1) place in
    let set_is : c.note_claim-ticket.result.set ≡ (at (seen vs es ++ map waiting sets) r.claims).set =
    e.set_is ∙ ap (λ u. (entry_at u c.len-place.result).set) appended ∙ ap (λ n. (entry_at (es ++ map unclaimed sets) n).set) place ∙ sym (set_seen vs (es ++ map unclaimed sets) r.claims) ∙ ap (λ u. (at u r.claims).set) (seen-level vs es sets) in
    rw (← c.self.view_is, e.mark, e.event, c.in_ok-reserve_claims.ensures.history, c.in_ok-reserve_claims.ensures.verdicts, working, c.in_ok-append_waiting.ensures.ok, c.deref-3.ensures.value, place, seen-claim vs (es ++ map unclaimed sets) r.claims (r.claims + 1), ← set_seen vs (es ++ map unclaimed sets) r.claims, seen-level vs es sets)
    (gives_next r.program (seen r.verdicts.items r.entries.items) c.in_ok-sets.sets.items r.settled r.claims r.pending r.size r.history.items c.args.worker (vec_capacity r.history) (vec_capacity c.reserve_claims.new.history) c.note_claim-ticket.result
    (subst (λ (f : Phase). IsKept r.program (seen r.verdicts.items r.entries.items) r.settled r.claims r.pending r.size f r.history.items (vec_capacity r.history)) working c.self.invariant.0) all quiet c.in_ok-sets.ensures some room
    number e.worker_is set_is)

pub returns-in_err-sets : goal.returns-in_err-sets
returns-in_err-sets c =
    let r = c.self.inside in
    let working : r.phase ≡ Working = ap (λ (b : Board). b.phase) c.self.view_is ∙ c.requires.working in
    let quiet = subst (λ (b : Board). (i : ℕ) → i < length b.candidates → IsQuiet (at b.candidates i).slot) (sym c.self.view_is) c.requires.quiet in
    let fits : has_drop r.history.items ≡ false = subst (HasPhase r.program (seen r.verdicts.items r.entries.items) r.history.items) working c.self.invariant.0.phase_fits in
    let wanted : IsRefused c.args.self.now = subst IsRefused c.self.view_is (record { working = working; wants = inr (ends_quiet r.program (seen r.verdicts.items r.entries.items) r.settled r.claims r.pending r.size r.history.items c.self.invariant.0.lineup c.self.invariant.0.slots fits quiet) }) in
    refused c.args.self.now c.args.self.now c.args.worker c.from_residual.result c.from_residual.ensures.0 refl wanted

pub invariant_of-self-in_err-reserve_claims : goal.invariant_of-self-in_err-reserve_claims
invariant_of-self-in_err-reserve_claims c =
    let e = c.in_err-reserve_claims.ensures in
    rw (e.history, e.verdicts) (kept_roomier _ _ _ _ _ _ _ _ _ _ c.self.invariant.0 e.history_room, verdicts_roomier _ _ _ _ _ _ c.self.invariant.1 e.verdicts_room)

pub returns-in_err-reserve_claims : goal.returns-in_err-reserve_claims
returns-in_err-reserve_claims c =
    let r = c.self.inside in
    let working : r.phase ≡ Working = ap (λ (b : Board). b.phase) c.self.view_is ∙ c.requires.working in
    let quiet = subst (λ (b : Board). (i : ℕ) → i < length b.candidates → IsQuiet (at b.candidates i).slot) (sym c.self.view_is) c.requires.quiet in
    let fits : has_drop r.history.items ≡ false = subst (HasPhase r.program (seen r.verdicts.items r.entries.items) r.history.items) working c.self.invariant.0.phase_fits in
    let wanted : IsRefused c.args.self.now = subst IsRefused c.self.view_is (record { working = working; wants = inr (ends_quiet r.program (seen r.verdicts.items r.entries.items) r.settled r.claims r.pending r.size r.history.items c.self.invariant.0.lineup c.self.invariant.0.slots fits quiet) }) in
    refused c.args.self.now _ c.args.worker c.from_residual-in_err-reserve_claims.result c.from_residual-in_err-reserve_claims.ensures.0
    (rw (c.in_err-reserve_claims.ensures.history, c.in_err-reserve_claims.ensures.verdicts) c.self.view_is) wanted

pub returns-in_err-append_waiting : goal.returns-in_err-append_waiting
returns-in_err-append_waiting c =
    let r = c.self.inside in
    let working : r.phase ≡ Working = ap (λ (b : Board). b.phase) c.self.view_is ∙ c.requires.working in
    let quiet = subst (λ (b : Board). (i : ℕ) → i < length b.candidates → IsQuiet (at b.candidates i).slot) (sym c.self.view_is) c.requires.quiet in
    let fits : has_drop r.history.items ≡ false = subst (HasPhase r.program (seen r.verdicts.items r.entries.items) r.history.items) working c.self.invariant.0.phase_fits in
    let wanted : IsRefused c.args.self.now = subst IsRefused c.self.view_is (record { working = working; wants = inr (ends_quiet r.program (seen r.verdicts.items r.entries.items) r.settled r.claims r.pending r.size r.history.items c.self.invariant.0.lineup c.self.invariant.0.slots fits quiet) }) in
    refused c.args.self.now _ c.args.worker c.from_residual-in_err-append_waiting.result c.from_residual-in_err-append_waiting.ensures.0
    (rw (c.in_err-append_waiting.ensures.err, c.in_ok-reserve_claims.ensures.history, c.in_ok-reserve_claims.ensures.verdicts) c.self.view_is) wanted
