-- The slots of a registry after one event more.
use Rattle.std.proofs.Common.{◌≡◌, ℕ, ◌+◌, ◌-◌, ◌<◌, ◌≤◌, List, [], ◌∷◌, ◌++◌, true, false, length, set, take, Contains, Some, slice_get, refl, sym, ap, ◌∙◌, subst, inl, inr, arith}
use Rattle.std.proofs.lemmas.Bool.{cases_eq, cases_lt}
use Rattle.std.proofs.lemmas.List.{length-set}
use Rattle.std.proofs.lemmas.List.Elements.{Contains-append_left, Contains-push_cases}
use Rattle.std.proofs.lemmas.List.Sums.{sum_by-set, get_or-le-sum_by}
use Rattle.mpc_sets.specs.SetOrder.{IsInOrder}
use Rattle.mpc_rows.specs.declared.programs.Qp.{Qp}
use Rattle.mpc_claim.specs.declared.events.Event.{Event}
use Rattle.mpc_claim.specs.declared.events.EventKind.{EventKind}
use Rattle.mpc_claim.specs.declared.events.EventKind.TheVariants.{Claim, Drop}
use Rattle.mpc_claim.specs.declared.candidates.Candidate.{Candidate}
use Rattle.mpc_claim.specs.declared.candidates.Slot.{Slot}
use Rattle.mpc_claim.specs.declared.candidates.Slot.TheVariants.{Waiting, Claimed, Done as DoneSlot, Dropped}
use Rattle.mpc_claim.specs.declared.tickets.Ticket.{Ticket}
use Rattle.mpc_claim.specs.Board.{at, candidate, event, sets_of, tag_of, waiting}
use Rattle.mpc_claim.specs.History.{is_claim, claimed_sets, ended_sets, has_drop, IsOpen}
use Rattle.mpc_claim.specs.Books.{is_done, IsQuiet, open_in, open_count, IsBegun, HasSlots}
use Rattle.mpc_claim.proofs.Lists.{set_at, length-sets_of, sets_of-set, at-set, at-other, front_more, numbered_in_front, different_at}
use Rattle.mpc_claim.proofs.Histories.{claimed-claim, claimed-end, ended-claim, ended-end, IsDone-more, ended_by_done, ended_by_drop, drop_shows}

-- ---- begun slots stay what the history makes of them
pub begun_after_claim : (qp : Qp) (h : List Event) (w i : ℕ) (s t : List ℕ) (slot : Slot) → IsBegun qp h i s slot → IsBegun qp (h ++ event w t Claim ∷ []) i s slot
begun_after_claim qp h w i s t Waiting b = b
begun_after_claim qp h w i s t (Claimed number) b = (b.0, λ c. b.1 (subst (λ u. Contains u s) (ended-claim h w t) c))
begun_after_claim qp h w i s t (DoneSlot verdict) b = (b.0, IsDone-more h (event w t Claim ∷ []) s (tag_of verdict) b.1)
begun_after_claim qp h w i s t Dropped b = (b.0, Contains-append_left h (event w t Claim ∷ []) (event b.0 s Drop) b.1)

pub begun_after_end : (qp : Qp) (h : List Event) (w i : ℕ) (s t : List ℕ) (kind : EventKind) (slot : Slot) → is_claim kind ≡ false → (t ≡ s → ⊥) → IsBegun qp h i s slot → IsBegun qp (h ++ event w t kind ∷ []) i s slot
begun_after_end qp h w i s t kind Waiting e ne b = b
begun_after_end qp h w i s t kind (Claimed number) e ne b =
    (b.0, λ c. elim (Contains-push_cases (ended_sets h) t s (subst (λ u. Contains u s) (ended-end h w t kind e) c)) [ inl k ↦ b.1 k | inr same ↦ ne same ])
begun_after_end qp h w i s t kind (DoneSlot verdict) e ne b = (b.0, IsDone-more h (event w t kind ∷ []) s (tag_of verdict) b.1)
begun_after_end qp h w i s t kind Dropped e ne b = (b.0, Contains-append_left h (event w t kind ∷ []) (event b.0 s Drop) b.1)

-- ---- slots
pub not_waiting_done : (slot : Slot) → slot ≡ Waiting → is_done slot ≡ true → ⊥
not_waiting_done slot e d = let f : is_done slot ≡ false = ap is_done e in cc

pub not_claimed_done : (slot : Slot) (k : ℕ) → slot ≡ Claimed k → is_done slot ≡ true → ⊥
not_claimed_done slot k e d = let f : is_done slot ≡ false = ap is_done e in cc

pub settled_claimed : (qp : Qp) (cs : List Candidate) (settled n pending : ℕ) (h : List Event) → HasSlots qp cs settled n pending h → settled ≤ n
settled_claimed qp cs settled n pending h k = elim (cases_lt n settled) [
  | inl l ↦ absurd (not_waiting_done (at cs n).slot (k.rest n (omega arith)) (k.quiet n l).done)
  | inr m ↦ m
]

-- ---- a claim
claimed_more : (cs : List Candidate) (n w : ℕ) (h : List Event) (new : List Candidate) → claimed_sets h ≡ take n (sets_of cs) → n < length cs → sets_of new ≡ sets_of cs → claimed_sets (h ++ event w (at cs n).set Claim ∷ []) ≡ take (n + 1) (sets_of new)
claimed_more cs n w h new e p same =
    let l = length-sets_of cs in
    claimed-claim h w (at cs n).set
    ∙ ap (λ u. u ++ (at cs n).set ∷ []) e
    ∙ ap (λ (t : List ℕ). take n (sets_of cs) ++ t ∷ []) (sym (set_at cs n))
    ∙ sym (front_more n (sets_of cs) (omega (arith, l)))
    ∙ ap (take (n + 1)) (sym same)

pub slots_after_claim : (qp : Qp) (cs : List Candidate) (settled n pending : ℕ) (h : List Event) (w : ℕ) → HasSlots qp cs settled n pending h → n < length cs → (Contains (ended_sets h) (at cs n).set → ⊥) → HasSlots qp (set cs n (candidate (at cs n).set (Claimed (n + 1)))) settled (n + 1) (pending + 1) (h ++ event w (at cs n).set Claim ∷ [])
slots_after_claim qp cs settled n pending h w k p unended =
    let l = length-set cs n (candidate (at cs n).set (Claimed (n + 1))) in
    let below = settled_claimed qp cs settled n pending h k in
    record {
      claimed = claimed_more cs n w h (set cs n (candidate (at cs n).set (Claimed (n + 1)))) k.claimed p (sets_of-set cs n (candidate (at cs n).set (Claimed (n + 1))) refl);
      within = omega (arith, l);
      begun = λ i q. elim (cases_eq i n) [
        | inl e ↦ subst (λ j. IsBegun qp (h ++ event w (at cs n).set Claim ∷ []) j (at (set cs n (candidate (at cs n).set (Claimed (n + 1)))) j).set (at (set cs n (candidate (at cs n).set (Claimed (n + 1)))) j).slot) (sym e)
            (subst (λ (c : Candidate). IsBegun qp (h ++ event w (at cs n).set Claim ∷ []) n c.set c.slot) (sym (at-set cs n (candidate (at cs n).set (Claimed (n + 1))) p))
            (refl, λ c. unended (subst (λ u. Contains u (at cs n).set) (ended-claim h w (at cs n).set) c)))
        | inr ne ↦ subst (λ (c : Candidate). IsBegun qp (h ++ event w (at cs n).set Claim ∷ []) i c.set c.slot) (sym (at-other cs n i (candidate (at cs n).set (Claimed (n + 1))) ne))
            (begun_after_claim qp h w i (at cs i).set (at cs n).set (at cs i).slot (k.begun i (omega (arith, ne))))
      ];
      rest = λ i q. ap (λ (c : Candidate). c.slot) (at-other cs n i (candidate (at cs n).set (Claimed (n + 1))) (omega arith)) ∙ k.rest i (omega arith);
      counted =
          let sums = sum_by-set (λ (c : Candidate). open_in c.slot) cs n (candidate (at cs n).set (Claimed (n + 1))) (waiting []) p in
          let none : open_in (at cs n).slot ≡ 0 = ap open_in (k.rest n (omega arith)) in
          let count = k.counted in
          omega (arith, sums, none, count);
      quiet = λ i q. subst (λ (c : Candidate). IsQuiet c.slot) (sym (at-other cs n i (candidate (at cs n).set (Claimed (n + 1))) (omega arith))) (k.quiet i q);
    }

-- ---- a delivery or an abandonment
pub slots_after_end : (qp : Qp) (cs : List Candidate) (settled n pending : ℕ) (h : List Event) (w i : ℕ) (kind : EventKind) (slot : Slot) → HasSlots qp cs settled n pending h → IsInOrder (sets_of cs) → i < n → (at cs i).slot ≡ Claimed (i + 1) → is_claim kind ≡ false → open_in slot ≡ 0 → IsBegun qp (h ++ event w (at cs i).set kind ∷ []) i (at cs i).set slot → HasSlots qp (set cs i (candidate (at cs i).set slot)) settled n (pending - 1) (h ++ event w (at cs i).set kind ∷ [])
slots_after_end qp cs settled n pending h w i kind slot k order p open_here ends shut begun =
    let l = length-set cs i (candidate (at cs i).set slot) in
    let many = length-sets_of cs in
    let within = k.within in
    let here : i < length cs = omega arith in
    record {
      claimed = claimed-end h w (at cs i).set kind ends ∙ k.claimed ∙ ap (take n) (sym (sets_of-set cs i (candidate (at cs i).set slot) refl));
      within = omega (arith, l);
      begun = λ j q. elim (cases_eq j i) [
        | inl e ↦ subst (λ m. IsBegun qp (h ++ event w (at cs i).set kind ∷ []) m (at (set cs i (candidate (at cs i).set slot)) m).set (at (set cs i (candidate (at cs i).set slot)) m).slot) (sym e)
            (subst (λ (c : Candidate). IsBegun qp (h ++ event w (at cs i).set kind ∷ []) i c.set c.slot) (sym (at-set cs i (candidate (at cs i).set slot) here)) begun)
        | inr ne ↦ subst (λ (c : Candidate). IsBegun qp (h ++ event w (at cs i).set kind ∷ []) j c.set c.slot) (sym (at-other cs i j (candidate (at cs i).set slot) ne))
            (begun_after_end qp h w j (at cs j).set (at cs i).set kind (at cs j).slot ends
            (λ same. different_at (sets_of cs) j i order (omega (arith, many)) (omega (arith, many)) ne (set_at cs j ∙ sym same ∙ sym (set_at cs i)))
            (k.begun j q))
      ];
      rest = λ j q. ap (λ (c : Candidate). c.slot) (at-other cs i j (candidate (at cs i).set slot) (omega arith)) ∙ k.rest j q;
      counted =
          let sums = sum_by-set (λ (c : Candidate). open_in c.slot) cs i (candidate (at cs i).set slot) (waiting []) here in
          let one : open_in (at cs i).slot ≡ 1 = ap open_in open_here in
          let count = k.counted in
          omega (arith, sums, one, count, shut);
      quiet = λ j q. elim (cases_eq j i) [
        | inl e ↦ absurd (not_claimed_done (at cs i).slot (i + 1) open_here (subst (λ m. IsQuiet (at cs m).slot) e (k.quiet j q)).done)
        | inr ne ↦ subst (λ (c : Candidate). IsQuiet c.slot) (sym (at-other cs i j (candidate (at cs i).set slot) ne)) (k.quiet j q)
      ];
    }

-- the slot of an open ticket is claimed under its number
pub record HasOpenSlot (cs : List Candidate) (n pending : ℕ) (ticket : Ticket) : Type 0 where
  pub claimed_before : ticket.number - 1 < n
  pub set_is : (at cs (ticket.number - 1)).set ≡ ticket.set
  pub slot_is : (at cs (ticket.number - 1)).slot ≡ Claimed (ticket.number - 1 + 1)
  pub some_pending : 1 ≤ pending

claimed_slot : (qp : Qp) (h : List Event) (i : ℕ) (s : List ℕ) (slot : Slot) → IsBegun qp h i s slot → ¬ Contains (ended_sets h) s → slot ≡ Claimed (i + 1)
claimed_slot qp h i s Waiting b open_still = absurd b
claimed_slot qp h i s (Claimed number) b open_still = ap Claimed b.0
claimed_slot qp h i s (DoneSlot verdict) b open_still = absurd (open_still (ended_by_done h s (tag_of verdict) b.1))
claimed_slot qp h i s Dropped b open_still = absurd (open_still (ended_by_drop h b.0 s b.1))

pub open_slot : (qp : Qp) (cs : List Candidate) (settled n pending : ℕ) (h : List Event) (ticket : Ticket) → HasSlots qp cs settled n pending h → IsOpen h ticket → HasOpenSlot cs n pending ticket
open_slot qp cs settled n pending h ticket k o =
    let i = ticket.number - 1 in
    let front = numbered_in_front n (sets_of cs) i ticket.set (subst (λ u. slice_get u i ≡ Some ticket.set) k.claimed o.numbered) in
    let here : (at cs i).set ≡ ticket.set = sym (set_at cs i) ∙ front.2 in
    let slot = claimed_slot qp h i (at cs i).set (at cs i).slot (k.begun i front.0) (λ c. o.may_end.open_still (subst (Contains (ended_sets h)) here c)) in
    let one : open_in (at cs i).slot ≡ 1 = ap open_in slot in
    let many = length-sets_of cs in
    let part = get_or-le-sum_by (λ (c : Candidate). open_in c.slot) cs i (waiting []) (omega (arith, front.1, many)) in
    let count = k.counted in
    record { claimed_before = front.0; set_is = here; slot_is = slot; some_pending = omega (arith, one, part, count) }

-- where none is pending, and none was given up, each claimed slot is done
pub all_done : (qp : Qp) (cs : List Candidate) (settled n pending : ℕ) (h : List Event) → HasSlots qp cs settled n pending h → pending ≡ 0 → has_drop h ≡ false → (i : ℕ) → i < n → is_done (at cs i).slot ≡ true
all_done qp cs settled n pending h k none no_drop i p = by (at cs i).slot refl (k.begun i p)
  where
    part : open_in (at cs i).slot ≤ open_count cs
    part = let w = k.within in get_or-le-sum_by (λ (c : Candidate). open_in c.slot) cs i (waiting []) (omega arith)

    by : (slot : Slot) → (at cs i).slot ≡ slot → IsBegun qp h i (at cs i).set slot → is_done slot ≡ true
    by Waiting e b = absurd b
    by (Claimed number) e b = let one : open_in (at cs i).slot ≡ 1 = ap open_in e in let count = k.counted in absurd (omega (arith, one, part, count))
    by (DoneSlot verdict) e b = refl
    by Dropped e b = let d = drop_shows h b.0 (at cs i).set b.1 in absurd (let f : has_drop h ≡ true = d in cc)
