-- What a registry keeps, after each of its calls.
use Rattle.std.proofs.Common.{◌≡◌, ℕ, ◌+◌, ◌-◌, ◌^◌, ◌<◌, ◌≤◌, List, [], ◌∷◌, ◌++◌, false, length, get_or, set, take, Contains, refl, sym, ap, ◌∙◌, subst, inl, inr, arith}
use Rattle.std.proofs.lemmas.List.{length-append}
use Rattle.std.proofs.lemmas.List.Elements.{Contains-push, Contains-get_or}
use Rattle.mpc_space.specs.Matrix.{height}
use Rattle.mpc_sets.specs.RowSet.{RisesWithin}
use Rattle.mpc_sets.specs.SetTheorems.{AreAtMost}
use Rattle.mpc_sets.specs.SetOrder.{IsBefore, IsInOrder}
use Rattle.mpc_rows.specs.declared.programs.Qp.{Qp}
use Rattle.mpc_rows.specs.declared.verdicts.Verdict.{Verdict}
use Rattle.mpc_rows.specs.Verdicts.{IsRight}
use Rattle.mpc_rows.specs.Candidates.{IsCandidate}
use Rattle.mpc_claim.specs.declared.events.Event.{Event}
use Rattle.mpc_claim.specs.declared.events.EventKind.{EventKind}
use Rattle.mpc_claim.specs.declared.events.EventKind.TheVariants.{Claim, Done, Drop}
use Rattle.mpc_claim.specs.declared.events.Phase.{Phase}
use Rattle.mpc_claim.specs.declared.events.Phase.TheVariants.{Working, Finished, Stopped}
use Rattle.mpc_claim.specs.declared.candidates.Candidate.{Candidate}
use Rattle.mpc_claim.specs.declared.candidates.Slot.{Slot}
use Rattle.mpc_claim.specs.declared.candidates.Slot.TheVariants.{Claimed, Done as DoneSlot, Dropped}
use Rattle.mpc_claim.specs.declared.tickets.Ticket.{Ticket}
use Rattle.mpc_claim.specs.Board.{at, candidate, event, sets_of, tag_of}
use Rattle.mpc_claim.specs.History.{is_claim, ended_sets, has_drop, MayFollow, IsOpen, IsLegal}
use Rattle.mpc_claim.specs.Books.{open_in, IsBegun, IsLineup, HasSlots, HasPhase, IsComplete, HasBad, IsKept}
use Rattle.mpc_claim.proofs.Lists.{IsBefore-irrefl, set_at, length-sets_of, sets_of-set, fresh_at}
use Rattle.mpc_claim.proofs.Histories.{has_drop-same, has_drop-drop, IsLegal-push, ended_was_claimed}
use Rattle.mpc_claim.proofs.NextCandidates.{candidate_rows, candidate_few}
use Rattle.mpc_claim.proofs.Slots.{slots_after_claim, slots_after_end, open_slot, HasOpenSlot, not_claimed_done}
use Rattle.mpc_claim.proofs.Sound.{may_claim}

-- ---- there are fewer candidates than numbers of 32 bits
pub rises_to : (low high to : ℕ) (s : List ℕ) → high ≤ to → RisesWithin low high s → RisesWithin low to s
rises_to low high to [] l h = tt
rises_to low high to (i ∷ s) l h = let b = h.1 in (h.0, omega arith, rises_to i high to s l h.2)

pub few_candidates : AreAtMost 60 6 56049058 → (qp : Qp) (sets : List (List ℕ)) → IsInOrder sets → ((s : List ℕ) → Contains sets s → IsCandidate qp s) → length sets < 2 ^ 26
few_candidates most_sets qp sets order are =
    let some : length sets ≤ 56049058 = most_sets sets
    (λ i j d p q e. IsBefore-irrefl (get_or sets j d) (subst (λ u. IsBefore u (get_or sets j d)) e (order i j d p q)))
    (λ i d p. let rows = candidate_rows qp (get_or sets i d) (are (get_or sets i d) (Contains-get_or sets i d p)) in record { rises = rises_to 0 (height qp.g) 60 (get_or sets i d) qp.is_program.few_rows rows.rises })
    (λ i d p. let few = candidate_few qp (get_or sets i d) (are (get_or sets i d) (Contains-get_or sets i d p)) in let most = qp.is_program.few_unknowns in omega arith)
    in
    omega arith

pub kept_roomier : (qp : Qp) (cs : List Candidate) (settled n pending size : ℕ) (phase : Phase) (h : List Event) (room more : ℕ) → IsKept qp cs settled n pending size phase h room → room ≤ more → IsKept qp cs settled n pending size phase h more
kept_roomier qp cs settled n pending size phase h room more k l = let r = k.room in record { definite = k.definite; legal = k.legal; lineup = k.lineup; slots = k.slots; phase_fits = k.phase_fits; room = omega arith }

-- ---- a claim
pub unended : (qp : Qp) (cs : List Candidate) (settled n pending size : ℕ) (h : List Event) → IsLegal qp h → IsLineup qp (sets_of cs) settled size → HasSlots qp cs settled n pending h → n < length cs → Contains (ended_sets h) (at cs n).set → ⊥
unended qp cs settled n pending size h legal lineup k p c =
    let many = length-sets_of cs in
    fresh_at (sets_of cs) n lineup.in_order (omega (arith, many))
    (subst (Contains (take n (sets_of cs))) (sym (set_at cs n)) (subst (λ u. Contains u (at cs n).set) k.claimed (ended_was_claimed qp h (at cs n).set legal c)))

pub kept_claim : (qp : Qp) (cs : List Candidate) (settled n pending size : ℕ) (h : List Event) (w old capacity : ℕ) → IsKept qp cs settled n pending size Working h old → n < length cs → length h + (pending + 2) ≤ capacity → IsKept qp (set cs n (candidate (at cs n).set (Claimed (n + 1)))) settled (n + 1) (pending + 1) size Working (h ++ event w (at cs n).set Claim ∷ []) capacity
kept_claim qp cs settled n pending size h w old capacity k p room =
    let same = sets_of-set cs n (candidate (at cs n).set (Claimed (n + 1))) refl in
    let l = length-append h (event w (at cs n).set Claim ∷ []) in
    record {
      definite = k.definite;
      legal = IsLegal-push qp h (event w (at cs n).set Claim) k.legal (may_claim qp cs settled n pending size h k.lineup k.slots k.phase_fits p);
      lineup = subst (λ u. IsLineup qp u settled size) (sym same) k.lineup;
      slots = slots_after_claim qp cs settled n pending h w k.slots p (unended qp cs settled n pending size h k.legal k.lineup k.slots p);
      phase_fits = has_drop-same h w (at cs n).set Claim refl ∙ k.phase_fits;
      room = omega (arith, l);
    }

-- ---- a delivery and an abandonment
-- while a slot is claimed, nothing is finished, and no level has ended
no_complete : (qp : Qp) (cs : List Candidate) (h : List Event) (i m : ℕ) → i < length cs → (at cs i).slot ≡ Claimed m → IsComplete qp cs h → ⊥
no_complete qp cs h i m p e c = not_claimed_done (at cs i).slot m e (c.quiet i p).done

no_bad : (cs : List Candidate) (h : List Event) (i m : ℕ) → i < length cs → (at cs i).slot ≡ Claimed m → HasBad cs h → ⊥
no_bad cs h i m p e b = not_claimed_done (at cs i).slot m e (b.done i p)

phase_after_done : (qp : Qp) (cs new : List Candidate) (h : List Event) (w i m : ℕ) (s : List ℕ) (kind : EventKind) (phase : Phase) → i < length cs → (at cs i).slot ≡ Claimed m → has_drop (h ++ event w s kind ∷ []) ≡ has_drop h → HasPhase qp cs h phase → HasPhase qp new (h ++ event w s kind ∷ []) phase
phase_after_done qp cs new h w i m s kind Working p e same f = same ∙ f
phase_after_done qp cs new h w i m s kind Finished p e same f = absurd (no_complete qp cs h i m p e f)
phase_after_done qp cs new h w i m s kind Stopped p e same f = elim f [ inl d ↦ inl (same ∙ d) | inr b ↦ absurd (no_bad cs h i m p e b) ]

module _ (qp : Qp) (cs : List Candidate) (settled n pending size : ℕ) (phase : Phase) (h : List Event) (capacity : ℕ) (ticket : Ticket) (i : ℕ) (place_is : i ≡ ticket.number - 1) (k : IsKept qp cs settled n pending size phase h capacity) (o : IsOpen h ticket) where
  open_here : HasOpenSlot cs n pending ticket
  open_here = open_slot qp cs settled n pending h ticket k.slots o

  pub set_here : (at cs i).set ≡ ticket.set
  set_here = ap (λ j. (at cs j).set) place_is ∙ open_here.set_is

  slot_here : (at cs i).slot ≡ Claimed (i + 1)
  slot_here = subst (λ j. (at cs j).slot ≡ Claimed (j + 1)) (sym place_is) open_here.slot_is

  pub place_claimed : i < n
  place_claimed = let p = open_here.claimed_before in omega arith

  pub place_within : i < length cs
  place_within = let p = place_claimed in let w = k.slots.within in omega arith

  pub some_pending : 1 ≤ pending
  some_pending = open_here.some_pending

  pub history_room : length h < capacity
  history_room = let r = k.room in let p = some_pending in omega arith

  kept_end : (kind : EventKind) (slot : Slot) (after : Phase) → is_claim kind ≡ false → open_in slot ≡ 0 → MayFollow qp h ticket.worker ticket.set kind → IsBegun qp (h ++ event ticket.worker ticket.set kind ∷ []) i ticket.set slot → HasPhase qp (set cs i (candidate ticket.set slot)) (h ++ event ticket.worker ticket.set kind ∷ []) after → IsKept qp (set cs i (candidate ticket.set slot)) settled n (pending - 1) size after (h ++ event ticket.worker ticket.set kind ∷ []) capacity
  kept_end kind slot after ends shut may begun fits =
      let same = sets_of-set cs i (candidate ticket.set slot) (sym set_here) in
      let l = length-append h (event ticket.worker ticket.set kind ∷ []) in
      let r = k.room in
      let p = some_pending in
      record {
        definite = k.definite;
        legal = IsLegal-push qp h (event ticket.worker ticket.set kind) k.legal may;
        lineup = subst (λ u. IsLineup qp u settled size) (sym same) k.lineup;
        slots = subst (λ s. HasSlots qp (set cs i (candidate s slot)) settled n (pending - 1) (h ++ event ticket.worker s kind ∷ [])) set_here
            (slots_after_end qp cs settled n pending h ticket.worker i kind slot k.slots k.lineup.in_order place_claimed slot_here ends shut
            (subst (λ s. IsBegun qp (h ++ event ticket.worker s kind ∷ []) i s slot) (sym set_here) begun));
        phase_fits = fits;
        room = omega (arith, l);
      }

  pub kept_deliver : (verdict : Verdict) → IsRight qp ticket.set verdict → IsKept qp (set cs i (candidate ticket.set (DoneSlot verdict))) settled n (pending - 1) size phase (h ++ event ticket.worker ticket.set (Done (tag_of verdict)) ∷ []) capacity
  kept_deliver verdict right =
      kept_end (Done (tag_of verdict)) (DoneSlot verdict) phase refl refl
      (o.may_end, record { verdict = verdict; right = right; tagged = refl })
      (right, record { worker = ticket.worker; delivery = Contains-push h (event ticket.worker ticket.set (Done (tag_of verdict))) })
      (phase_after_done qp cs (set cs i (candidate ticket.set (DoneSlot verdict))) h ticket.worker i (i + 1) ticket.set (Done (tag_of verdict)) phase place_within slot_here (has_drop-same h ticket.worker ticket.set (Done (tag_of verdict)) refl) k.phase_fits)

  pub kept_abandon : IsKept qp (set cs i (candidate ticket.set Dropped)) settled n (pending - 1) size Stopped (h ++ event ticket.worker ticket.set Drop ∷ []) capacity
  kept_abandon =
      kept_end Drop Dropped Stopped refl refl o.may_end
      (ticket.worker, Contains-push h (event ticket.worker ticket.set Drop))
      (inl (has_drop-drop h ticket.worker ticket.set))
