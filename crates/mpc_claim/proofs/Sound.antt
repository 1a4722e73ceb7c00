-- What a registry keeps, as callers see it.
use Rattle.std.proofs.Common.{◌≡◌, ◌≢◌, ℕ, ◌+◌, ◌-◌, ◌<◌, ◌≤◌, List, [], true, false, length, get_or, take, Contains, Some, slice_get, refl, sym, ap, ◌∙◌, subst, inl, inr, arith}
use Rattle.std.proofs.lemmas.Bool.{cases_lt}
use Rattle.mpc_sets.specs.SetOrder.{IsBefore}
use Rattle.mpc_rows.specs.declared.programs.Qp.{Qp}
use Rattle.mpc_rows.specs.declared.verdicts.Verdict.{Verdict}
use Rattle.mpc_rows.specs.declared.verdicts.Verdict.TheVariants.{Dependent, Unreachable, Hollow, Region, Wide}
use Rattle.mpc_rows.specs.Candidates.{IsCandidate}
use Rattle.mpc_claim.specs.declared.events.Event.{Event}
use Rattle.mpc_claim.specs.declared.events.Phase.{Phase}
use Rattle.mpc_claim.specs.declared.events.Phase.TheVariants.{Working, Finished, Stopped}
use Rattle.mpc_claim.specs.declared.events.Tag.{Tag}
use Rattle.mpc_claim.specs.declared.events.Tag.TheVariants.{Wide as WideTag}
use Rattle.mpc_claim.specs.declared.candidates.Candidate.{Candidate}
use Rattle.mpc_claim.specs.declared.candidates.Slot.{Slot}
use Rattle.mpc_claim.specs.declared.candidates.Slot.TheVariants.{Waiting, Claimed, Done as DoneSlot, Dropped}
use Rattle.mpc_claim.specs.Board.{at, sets_of, tag_of, is_wide}
use Rattle.mpc_claim.specs.History.{claimed_sets, has_drop, IsDone, IsSettled, MayClaim, IsFinished, EndsWide}
use Rattle.mpc_claim.specs.Books.{is_done, is_bad, IsQuiet, IsBegun, IsSlotOf, IsLineup, HasSlots, IsComplete, HasBad, HasPhase, IsKept, IsPhaseOf, IsSound}
use Rattle.mpc_claim.proofs.Lists.{set_at, length-sets_of, place_of, contains_at, place_in_front, contains_in_front, number_in_front, different_at, place_before, fresh_at, before_size}
use Rattle.mpc_claim.proofs.Slots.{not_waiting_done, settled_claimed, open_slot}

-- ---- a slot with a verdict that isn't wide
quiet_tag : (v : Verdict) → is_wide v ≡ false → tag_of v ≢ WideTag
quiet_tag Dependent e f = cc
quiet_tag Unreachable e f = cc
quiet_tag Hollow e f = cc
quiet_tag (Region law) e f = cc
quiet_tag (Wide place) e f = cc

pub settled_by : (qp : Qp) (h : List Event) (i : ℕ) (s : List ℕ) (slot : Slot) → IsQuiet slot → IsBegun qp h i s slot → IsSettled h s
settled_by qp h i s Waiting q b = absurd b
settled_by qp h i s (Claimed number) q b = let d = q.done in absurd (cc)
settled_by qp h i s (DoneSlot v) q b = record { tag = tag_of v; done = b.1; not_wide = quiet_tag v q.not_bad }
settled_by qp h i s Dropped q b = let d = q.done in absurd (cc)

pub done_by : (qp : Qp) (h : List Event) (i : ℕ) (s : List ℕ) (slot : Slot) → is_done slot ≡ true → IsBegun qp h i s slot → (tag : Tag) × IsDone h s tag
done_by qp h i s Waiting d b = absurd b
done_by qp h i s (Claimed number) d b = absurd (cc)
done_by qp h i s (DoneSlot v) d b = (tag_of v, b.1)
done_by qp h i s Dropped d b = absurd (cc)

wide_tag : (v : Verdict) → is_wide v ≡ true → tag_of v ≡ WideTag
wide_tag Dependent e = absurd (cc)
wide_tag Unreachable e = absurd (cc)
wide_tag Hollow e = absurd (cc)
wide_tag (Region law) e = absurd (cc)
wide_tag (Wide place) e = refl

pub wide_by : (qp : Qp) (h : List Event) (i : ℕ) (s : List ℕ) (slot : Slot) → is_bad slot ≡ true → IsBegun qp h i s slot → IsDone h s WideTag
wide_by qp h i s Waiting d b = absurd b
wide_by qp h i s (Claimed number) d b = absurd (cc)
wide_by qp h i s (DoneSlot v) d b = subst (IsDone h s) (wide_tag v d) b.1
wide_by qp h i s Dropped d b = absurd (cc)

slot_of_begun : (qp : Qp) (h : List Event) (i : ℕ) (s : List ℕ) (slot : Slot) → slice_get (claimed_sets h) i ≡ Some s → IsBegun qp h i s slot → IsSlotOf qp h i s slot
slot_of_begun qp h i s Waiting e b = absurd b
slot_of_begun qp h i s (Claimed number) e b = (e, b)
slot_of_begun qp h i s (DoneSlot v) e b = (e, b)
slot_of_begun qp h i s Dropped e b = (e, b)

-- ---- the whole
module _ (qp : Qp) (cs : List Candidate) (settled n pending size : ℕ) (h : List Event) where
  pub slots_shown : IsLineup qp (sets_of cs) settled size → HasSlots qp cs settled n pending h → (i : ℕ) → i < length cs → IsSlotOf qp h i (at cs i).set (at cs i).slot
  slots_shown lineup k i p =
      let many = length-sets_of cs in
      let within = k.within in
      elim (cases_lt i n) [
        | inl l ↦ slot_of_begun qp h i (at cs i).set (at cs i).slot
            (ap (λ u. slice_get u i) k.claimed ∙ number_in_front n (sets_of cs) i l (omega (arith, many)) ∙ ap Some (set_at cs i))
            (k.begun i l)
        | inr m ↦ subst (IsSlotOf qp h i (at cs i).set) (sym (k.rest i m)) (λ c.
            let (j, below, within_j, e) = place_in_front n (sets_of cs) (at cs i).set (subst (λ u. Contains u (at cs i).set) k.claimed c) in
            different_at (sets_of cs) j i lineup.in_order within_j (omega (arith, many)) (λ same. absurd (omega (arith, same))) (e ∙ sym (set_at cs i)))
      ]

  -- a candidate of no greater size is settled, done or claimed where all slots are
  place : IsLineup qp (sets_of cs) settled size → (s : List ℕ) → IsCandidate qp s → length s ≤ size → (i : ℕ) × (i < length cs) × ((at cs i).set ≡ s)
  place lineup s c l = place_of cs s (lineup.complete s c l)

  small_place : IsLineup qp (sets_of cs) settled size → (s : List ℕ) → IsCandidate qp s → length s < size → (i : ℕ) × (i < settled) × (i < length cs) × ((at cs i).set ≡ s)
  small_place lineup s c l =
      let (i, p, e) = place lineup s c (omega arith) in
      let many = length-sets_of cs in
      let same : length (get_or (sets_of cs) i []) ≡ length s = ap length (set_at cs i ∙ e) in
      elim (cases_lt i settled) [
        | inl below ↦ (i, below, p, e)
        | inr m ↦ let long = lineup.of_size i m (omega (arith, many)) in absurd (omega (arith, long, same))
      ]

  pub small_settled : IsLineup qp (sets_of cs) settled size → HasSlots qp cs settled n pending h → (s : List ℕ) → IsCandidate qp s → length s < size → IsSettled h s
  small_settled lineup k s c l =
      let (i, below, p, e) = small_place lineup s c l in
      let first = settled_claimed qp cs settled n pending h k in
      subst (IsSettled h) e (settled_by qp h i (at cs i).set (at cs i).slot (k.quiet i below) (k.begun i (omega (arith, first))))

  pub shown_finished : HasSlots qp cs settled n pending h → IsComplete qp cs h → IsFinished qp h
  shown_finished k c =
      let all_claimed : length cs ≤ n = elim (cases_lt n (length cs)) [
        | inl l ↦ absurd (not_waiting_done (at cs n).slot (k.rest n (omega arith)) (c.quiet n l).done)
        | inr m ↦ m
      ] in
      record {
        no_drop = c.no_drop;
        claimed = λ s d.
            let (i, p, e) = place_of cs s (c.complete s d) in
            let within = k.within in
            let many = length-sets_of cs in
            subst (λ u. Contains u s) (sym k.claimed) (subst (Contains (take n (sets_of cs))) (set_at cs i ∙ e) (contains_in_front n (sets_of cs) i (omega (arith, all_claimed)) (omega (arith, many))));
        settled = λ s d.
            let (i, p, e) = place_of cs s (c.complete s d) in
            subst (IsSettled h) e (settled_by qp h i (at cs i).set (at cs i).slot (c.quiet i p) (k.begun i (omega (arith, all_claimed))));
      }

  pub shown_wide : IsLineup qp (sets_of cs) settled size → HasSlots qp cs settled n pending h → HasBad cs h → EndsWide qp h
  shown_wide lineup k b =
      let all_claimed : length cs ≤ n = elim (cases_lt n (length cs)) [
        | inl l ↦ absurd (not_waiting_done (at cs n).slot (k.rest n (omega arith)) (b.done n l))
        | inr m ↦ m
      ] in
      let here = b.in_range in
      let many = length-sets_of cs in
      record {
        no_drop = b.no_drop;
        size = size;
        delivered = λ s c l.
            let (i, p, e) = place lineup s c l in
            subst (λ t. (tag : Tag) × IsDone h t tag) e (done_by qp h i (at cs i).set (at cs i).slot (b.done i p) (k.begun i (omega (arith, all_claimed))));
        smaller_settled = small_settled lineup k;
        bad = (at cs b.place).set;
        of_size = elim (cases_lt b.place settled) [
          | inl l ↦ let q = (k.quiet b.place l).not_bad in let w = b.bad in absurd (cc)
          | inr m ↦ ap length (sym (set_at cs b.place)) ∙ lineup.of_size b.place m (omega (arith, many))
        ];
        candidate = lineup.candidates (at cs b.place).set (contains_at cs b.place here);
        wide = wide_by qp h b.place (at cs b.place).set (at cs b.place).slot b.bad (k.begun b.place (omega (arith, all_claimed)));
      }

  shown_phase : (phase : Phase) → IsLineup qp (sets_of cs) settled size → HasSlots qp cs settled n pending h → HasPhase qp cs h phase → IsPhaseOf qp h phase
  shown_phase Working lineup k p = p
  shown_phase Finished lineup k p = shown_finished k p
  shown_phase Stopped lineup k p = elim p [ inl d ↦ inl d | inr b ↦ inr (shown_wide lineup k b) ]

  pub sound : (phase : Phase) (capacity : ℕ) → IsKept qp cs settled n pending size phase h capacity → IsSound (record { program = qp; candidates = cs; settled = settled; phase = phase; history = h })
  sound phase capacity k = record {
    definite = k.definite;
    legal = k.legal;
    size = size;
    lineup = k.lineup;
    slots = slots_shown k.lineup k.slots;
    open_slots = λ ticket o.
        let s = open_slot qp cs settled n pending h ticket k.slots o in
        let one = o.from_one in
        let number : ticket.number - 1 + 1 ≡ ticket.number = omega arith in
        record { set_is = s.set_is; slot_is = s.slot_is ∙ ap Claimed number };
    phase_is = shown_phase phase k.lineup k.slots k.phase_fits;
  }

  -- the first candidate that waits may be claimed
  pub may_claim : IsLineup qp (sets_of cs) settled size → HasSlots qp cs settled n pending h → has_drop h ≡ false → n < length cs → MayClaim qp h (at cs n).set
  may_claim lineup k no_drop p =
      let many = length-sets_of cs in
      let first = settled_claimed qp cs settled n pending h k in
      let long : length (at cs n).set ≡ size = ap length (sym (set_at cs n)) ∙ lineup.of_size n first (omega (arith, many)) in
      record {
        no_drop = no_drop;
        candidate = lineup.candidates (at cs n).set (contains_at cs n p);
        fresh = λ c. fresh_at (sets_of cs) n lineup.in_order (omega (arith, many)) (subst (Contains (take n (sets_of cs))) (sym (set_at cs n)) (subst (λ u. Contains u (at cs n).set) k.claimed c));
        least = λ t c b. least_claimed t c b long;
        smaller_settled = λ t c l. small_settled lineup k t c (omega (arith, long));
      }
    where
      least_claimed : (t : List ℕ) → IsCandidate qp t → IsBefore t (at cs n).set → length (at cs n).set ≡ size → Contains (claimed_sets h) t
      least_claimed t c b long =
          let shorter = before_size t (at cs n).set b in
          let (i, q, e) = place lineup t c (omega (arith, long, shorter)) in
          let many = length-sets_of cs in
          let earlier = place_before (sets_of cs) i n lineup.in_order (omega (arith, many)) (subst (λ u. IsBefore u (get_or (sets_of cs) n [])) (sym (set_at cs i ∙ e)) (subst (IsBefore t) (sym (set_at cs n)) b)) in
          subst (λ u. Contains u t) (sym k.claimed) (subst (Contains (take n (sets_of cs))) (set_at cs i ∙ e) (contains_in_front n (sets_of cs) i earlier (omega (arith, many))))
