-- The tickets in the hands of workers, as they move.
use Rattle.std.proofs.Common.{◌≡◌, ◌≢◌, ℕ, ◌+◌, ◌-◌, ◌<◌, ◌≤◌, ◌⊎◌, List, [], ◌∷◌, ◌++◌, length, set, false, Contains, Option, None, Some, Result, Ok, Err, refl, sym, ap, ◌∙◌, subst, inl, inr, arith}
use Rattle.std.specs.Prelude.{OnErr}
use Rattle.std.proofs.lemmas.Bool.{cases_eq}
use Rattle.std.proofs.lemmas.List.{append-nil, append_assoc, get_or-set_same, get_or-set_other, set-get_or}
use Rattle.std.proofs.lemmas.List.Elements.{Contains-push_cases}
use Rattle.mpc_frac.specs.declared.NoMemory.{NoMemory}
use Rattle.mpc_rows.specs.declared.programs.Qp.{Qp}
use Rattle.mpc_rows.specs.JudgedSet.{JudgedSet}
use Rattle.mpc_rows.specs.Verdicts.{IsRight}
use Rattle.mpc_claim.specs.declared.events.Event.{Event}
use Rattle.mpc_claim.specs.declared.events.EventKind.{EventKind}
use Rattle.mpc_claim.specs.declared.events.EventKind.TheVariants.{Claim, Done, Drop}
use Rattle.mpc_claim.specs.declared.tickets.Ticket.{Ticket}
use Rattle.mpc_claim.specs.declared.moves.Played.{Played}
use Rattle.mpc_claim.specs.declared.moves.Played.TheVariants.{Got, Idle, Finished as FinishedPlay, Stopped, Delivered, Dropped, Skipped}
use Rattle.mpc_claim.specs.Board.{Board, event, tag_of}
use Rattle.mpc_claim.specs.History.{is_claim, claimed_sets, MayFollow, IsLegalAfter, IsLegal, IsOpen}
use Rattle.mpc_claim.specs.Books.{IsSound, IsPhaseOf}
use Rattle.mpc_claim.specs.Answers.{IsRefused}
use Rattle.mpc_claim.specs.Moves.{ClaimMoves, DeliveryMoves, AbandonmentMoves}
use Rattle.mpc_claim.specs.Hands.{Workplace, hand_at, IsHeld, HoldsOpen, IsReached}
use Rattle.mpc_claim.proofs.Histories.{IsLegal-push, contains_claimed, no_set_claimed_twice, claimed_is_candidate}
use Rattle.mpc_claim.proofs.Opens.{open_after_claim, open_after_end}

-- ---- one claim of each set
abbrev ClaimsOnce : List Event → Type 0
ClaimsOnce h = (s : List ℕ) (v w : ℕ) → Contains h (event v s Claim) → Contains h (event w s Claim) → v ≡ w

once_more : (qp : Qp) (past : List Event) (e : Event) → MayFollow qp past e.worker e.set e.kind → ClaimsOnce past → ClaimsOnce (past ++ e ∷ [])
once_more qp past e m f s v w a b = go (Contains-push_cases past e (event v s Claim) a) (Contains-push_cases past e (event w s Claim) b)
  where
    new : (u : ℕ) → e ≡ event u s Claim → ¬ Contains (claimed_sets past) s
    new u same = (subst (λ (x : Event). MayFollow qp past x.worker x.set x.kind) same m).fresh

    go : Contains past (event v s Claim) ⊎ (e ≡ event v s Claim) → Contains past (event w s Claim) ⊎ (e ≡ event w s Claim) → v ≡ w
    go (inl p) (inl q) = f s v w p q
    go (inl p) (inr q) = absurd (new w q (contains_claimed past v s p))
    go (inr p) (inl q) = absurd (new v p (contains_claimed past w s q))
    go (inr p) (inr q) = sym (ap (λ (x : Event). x.worker) p) ∙ ap (λ (x : Event). x.worker) q

once_after : (qp : Qp) (past es : List Event) → IsLegalAfter qp past es → ClaimsOnce past → ClaimsOnce (past ++ es)
once_after qp past [] h f = subst ClaimsOnce (sym (append-nil past)) f
once_after qp past (e ∷ es) h f = subst ClaimsOnce (append_assoc past (e ∷ []) es) (once_after qp (past ++ e ∷ []) es h.1 (once_more qp past e h.0 f))

none_claimed : ClaimsOnce []
none_claimed s v w (i, p, e) c = absurd (omega arith)

pub one_claim : (qp : Qp) (h : List Event) → IsLegal qp h → (s : List ℕ) (v w : ℕ) → Contains h (event v s Claim) → Contains h (event w s Claim) → v ≡ w
unfolding IsLegal
one_claim qp h legal s v w a b = once_after qp [] h legal none_claimed s v w a b

-- no two hands hold one set
pub apart : (qp : Qp) (h : List Event) (hands : List (Option Ticket)) → HoldsOpen qp h hands → (i j : ℕ) (ticket other : Ticket) → hand_at hands i ≡ Some ticket → hand_at hands j ≡ Some other → i ≢ j → ticket.set ≢ other.set
apart qp h hands k i j ticket other p q ne = λ same.
    let a = k.held i ticket p in
    let b = k.held j other q in
    let claimed : Contains h (event other.worker ticket.set Claim) = subst (λ (s : List ℕ). Contains h (event other.worker s Claim)) (sym same) b.open_still.may_end.claimed in
    let one = one_claim qp h k.legal ticket.set ticket.worker other.worker a.open_still.may_end.claimed claimed in
    let v = a.worker_is in
    let w = b.worker_is in
    ne (omega arith)

-- ---- a claim
pub held_same : (qp : Qp) (h : List Event) (hands : List (Option Ticket)) (i : ℕ) (later : Option Ticket) → later ≡ hand_at hands i → HoldsOpen qp h hands → HoldsOpen qp h (set hands i later)
held_same qp h hands i later e k = subst (HoldsOpen qp h) (sym (ap (set hands i) e ∙ set-get_or hands i None)) k

held_more : (qp : Qp) (h new : List Event) (hands : List (Option Ticket)) (i : ℕ) (ticket : Ticket) (later : Option Ticket) → i < length hands → later ≡ Some ticket → new ≡ h ++ event ticket.worker ticket.set Claim ∷ [] → ticket.worker ≡ i + 1 → IsOpen new ticket → HoldsOpen qp h hands → (j : ℕ) (t : Ticket) → hand_at (set hands i later) j ≡ Some t → IsHeld new j t
held_more qp h new hands i ticket later p l e w o k j t q = go (cases_eq j i)
  where
    go : (j ≡ i) ⊎ (j ≡ i → ⊥) → IsHeld new j t
    go (inl same) =
        let found : Some ticket ≡ Some t = sym l ∙ sym (get_or-set_same hands i later None p) ∙ ap (hand_at (set hands i later)) (sym same) ∙ q in
        let one : ticket ≡ t = cc in
        subst (IsHeld new j) one (record { open_still = o; worker_is = w ∙ ap (λ (x : ℕ). x + 1) (sym same) })
    go (inr other) =
        let old = k.held j t (sym (get_or-set_other hands i j later None other) ∙ q) in
        record { open_still = subst (λ u. IsOpen u t) (sym e) (open_after_claim h ticket.worker ticket.set t old.open_still); worker_is = old.worker_is }

pub held_claim : (worker : ℕ) (answer : Result Played NoMemory) (old : Board) (hand : Option Ticket) (new : Board) (later : Option Ticket) (hands : List (Option Ticket)) → 1 ≤ worker → worker ≤ length hands → hand ≡ hand_at hands (worker - 1) → HoldsOpen old.program old.history hands → ClaimMoves worker answer old hand new later → HoldsOpen new.program new.history (set hands (worker - 1) later)
held_claim worker (Ok Got) old hand new later hands one last e k m = record {
  legal = m.claims.sound.legal;
  held = held_more old.program old.history new.history hands (worker - 1) m.ticket later (omega arith) m.holds (m.claims.history ∙ ap (λ (w : ℕ). old.history ++ event w m.ticket.set Claim ∷ []) (sym m.claims.worker_is)) (let w = m.claims.worker_is in omega arith) m.claims.opens k;
}
held_claim worker (Ok Idle) old hand new later hands one last e k m =
    held_same new.program new.history hands (worker - 1) later (m.empty_still ∙ sym m.empty ∙ e) (subst (λ (b : Board). HoldsOpen b.program b.history hands) (sym m.claims.0) k)
held_claim worker (Ok FinishedPlay) old hand new later hands one last e k m =
    held_same new.program new.history hands (worker - 1) later (m.empty_still ∙ sym m.empty ∙ e) (subst (λ (b : Board). HoldsOpen b.program b.history hands) (sym m.claims.0) k)
held_claim worker (Ok Stopped) old hand new later hands one last e k m =
    held_same new.program new.history hands (worker - 1) later (m.empty_still ∙ sym m.empty ∙ e) (subst (λ (b : Board). HoldsOpen b.program b.history hands) (sym m.claims.0) k)
held_claim worker (Ok Delivered) old hand new later hands one last e k m = absurd m
held_claim worker (Ok Dropped) old hand new later hands one last e k m = absurd m
held_claim worker (Ok Skipped) old hand new later hands one last e k m =
    held_same new.program new.history hands (worker - 1) later (m.1.hand_is ∙ e) (subst (λ (b : Board). HoldsOpen b.program b.history hands) (sym m.1.registry) k)
held_claim worker (Err refused) old hand new later hands one last e k m =
    held_same new.program new.history hands (worker - 1) later (m.2.hand_is ∙ e) (subst (λ (b : Board). HoldsOpen b.program b.history hands) (sym m.2.registry) k)

abbrev place_of : Board → List (Option Ticket) → Workplace
place_of registry hands = record { registry = registry; hands = hands }

-- a refused claim leaves all as it was
pub play_refused : (worker i : ℕ) (answer : Result Played NoMemory) (old : Board) (hand : Option Ticket) (new : Board) (later : Option Ticket) (hands : List (Option Ticket)) (place : Workplace) → hand ≡ hand_at hands i → record { registry = old; hands = hands } ≡ place → ClaimMoves worker answer old hand new later → OnErr answer ((record { registry = new; hands = set hands i later } ≡ place) × IsRefused place.registry)
play_refused worker i (Ok played) old hand new later hands place e v m = tt
play_refused worker i (Err refused) old hand new later hands place e v m = (
  (λ j. place_of (m.2.registry j) ((ap (set hands i) (m.2.hand_is ∙ e) ∙ set-get_or hands i None) j)) ∙ v,
  subst IsRefused (ap (λ (p : Workplace). p.registry) v) m.1,
)

-- ---- the end of a claim
abbrev IsWithout : List (Option Ticket) → ℕ → List (Option Ticket) → Type 0
IsWithout hands i fewer = (j : ℕ) (t : Ticket) → hand_at fewer j ≡ Some t → (j ≢ i) × (hand_at hands j ≡ Some t)

pub held_end : (qp : Qp) (h : List Event) (hands : List (Option Ticket)) (i : ℕ) (ticket : Ticket) (kind : EventKind) (fewer : List (Option Ticket)) → HoldsOpen qp h hands → hand_at hands i ≡ Some ticket → is_claim kind ≡ false → MayFollow qp h ticket.worker ticket.set kind → IsWithout hands i fewer → HoldsOpen qp (h ++ event ticket.worker ticket.set kind ∷ []) fewer
held_end qp h hands i ticket kind fewer k p e m f = record {
  legal = IsLegal-push qp h (event ticket.worker ticket.set kind) k.legal m;
  held = λ j t q.
      let (ne, at) = f j t q in
      let old = k.held j t at in
      record { open_still = open_after_end h ticket.worker ticket.set kind t e (apart qp h hands k i j ticket t p at (λ s. ne (sym s))) old.open_still; worker_is = old.worker_is };
}

without_set : (hands : List (Option Ticket)) (i : ℕ) (later : Option Ticket) → i < length hands → later ≡ None → IsWithout hands i (set hands i later)
without_set hands i later p l j t q = go (cases_eq j i)
  where
    go : (j ≡ i) ⊎ (j ≡ i → ⊥) → (j ≢ i) × (hand_at hands j ≡ Some t)
    go (inl same) =
        let found : None ≡ Some t = sym l ∙ sym (get_or-set_same hands i later None p) ∙ ap (hand_at (set hands i later)) (sym same) ∙ q in
        absurd (cc)
    go (inr other) = (other, sym (get_or-set_other hands i j later None other) ∙ q)

pub held_delivery : (judged : JudgedSet) (played : Played) (old : Board) (hand : Option Ticket) (new : Board) (later : Option Ticket) (hands : List (Option Ticket)) (i : ℕ) → i < length hands → hand ≡ hand_at hands i → IsRight old.program judged.set judged.verdict → HoldsOpen old.program old.history hands → DeliveryMoves judged played old hand new later → HoldsOpen new.program new.history (set hands i later)
held_delivery judged Got old hand new later hands i p e r k m = absurd m
held_delivery judged Idle old hand new later hands i p e r k m = absurd m
held_delivery judged FinishedPlay old hand new later hands i p e r k m = absurd m
held_delivery judged Stopped old hand new later hands i p e r k m = absurd m
held_delivery judged Delivered old hand new later hands i p e r k m =
    let at = sym e ∙ m.held in
    subst (λ (b : Board). HoldsOpen b.program b.history (set hands i later)) (sym m.delivers)
    (held_end old.program old.history hands i m.ticket (Done (tag_of judged.verdict)) (set hands i later) k at refl
    ((k.held i m.ticket at).open_still.may_end, record { verdict = judged.verdict; right = subst (λ s. IsRight old.program s judged.verdict) (sym m.same_set) r; tagged = refl }) (without_set hands i later p m.empty))
held_delivery judged Dropped old hand new later hands i p e r k m = absurd m
held_delivery judged Skipped old hand new later hands i p e r k m =
    held_same new.program new.history hands i later (m.1.hand_is ∙ e) (subst (λ (b : Board). HoldsOpen b.program b.history hands) (sym m.1.registry) k)

pub held_abandonment : (played : Played) (old : Board) (hand : Option Ticket) (new : Board) (later : Option Ticket) (hands : List (Option Ticket)) (i : ℕ) → i < length hands → hand ≡ hand_at hands i → HoldsOpen old.program old.history hands → AbandonmentMoves played old hand new later → HoldsOpen new.program new.history (set hands i later)
held_abandonment Got old hand new later hands i p e k m = absurd m
held_abandonment Idle old hand new later hands i p e k m = absurd m
held_abandonment FinishedPlay old hand new later hands i p e k m = absurd m
held_abandonment Stopped old hand new later hands i p e k m = absurd m
held_abandonment Delivered old hand new later hands i p e k m = absurd m
held_abandonment Dropped old hand new later hands i p e k m =
    let at = sym e ∙ m.held in
    subst (λ (b : Board). HoldsOpen b.program b.history (set hands i later)) (sym m.abandons)
    (held_end old.program old.history hands i m.ticket Drop (set hands i later) k at refl (k.held i m.ticket at).open_still.may_end (without_set hands i later p m.empty))
held_abandonment Skipped old hand new later hands i p e k m =
    held_same new.program new.history hands i later (m.1.hand_is ∙ e) (subst (λ (b : Board). HoldsOpen b.program b.history hands) (sym m.1.registry) k)

-- ---- what callers see
pub reached : (place : Workplace) → IsSound place.registry → HoldsOpen place.registry.program place.registry.history place.hands → IsReached place
reached place sound k = record {
  sound = sound;
  held = k.held;
  apart = apart place.registry.program place.registry.history place.hands k;
  none_twice = no_set_claimed_twice place.registry.program place.registry.history k.legal;
  all_claimed = λ finished s. (
    (subst (IsPhaseOf place.registry.program place.registry.history) finished sound.phase_is).claimed s,
    claimed_is_candidate place.registry.program place.registry.history s k.legal,
  );
}
