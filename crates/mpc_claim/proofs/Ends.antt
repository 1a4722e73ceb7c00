-- How a level ends.
use Rattle.std.proofs.Common.{◌≡◌, ℕ, zero, suc, ◌+◌, ◌-◌, ◌<◌, ◌≤◌, ◌⊎◌, List, [], ◌∷◌, true, false, length, get_or, take, drop, Contains, Some, slice_get, refl, sym, ap, ◌∙◌, subst, inl, inr, arith, eqb}
use Rattle.std.proofs.Math.Seq.{take-length}
use Rattle.std.proofs.lemmas.Bool.{cases_lt}
use Rattle.std.proofs.lemmas.List.{length-drop}
use Rattle.std.proofs.lemmas.List.Sums.{sum_by-append}
use Rattle.std.proofs.lemmas.Option.{slice_get_within, get_or_from_slice_get}
use Rattle.mpc_sets.specs.SetOrder.{IsBefore}
use Rattle.mpc_rows.specs.declared.verdicts.Verdict.{Verdict}
use Rattle.mpc_rows.specs.Verdicts.{IsRight}
use Rattle.mpc_claim.specs.declared.candidates.Slot.{Slot}
use Rattle.mpc_claim.specs.declared.candidates.Slot.TheVariants.{Waiting, Claimed as ClaimedSlot, Done, Dropped}
use Rattle.std.specs.Prelude.{Result, Ok, Err}
use Rattle.std.specs.Result.{IsErr}
use Rattle.mpc_frac.specs.declared.NoMemory.{NoMemory}
use Rattle.mpc_claim.specs.declared.tickets.Claimed.{Claimed}
use Rattle.mpc_claim.specs.Answers.{Claims, IsFirstBad, IsRefused}
use Rattle.mpc_claim.proofs.Lists.{set_at, length-sets_of, place_of, contains_at, contains_in_front, place_in_front, number_in_front, place_before, before_size}
use Rattle.mpc_claim.proofs.Histories.{claim_event}
use Rattle.mpc_claim.proofs.NextLevels.{all_claimed}
use Rattle.mpc_rows.specs.declared.programs.Qp.{Qp}
use Rattle.mpc_claim.specs.declared.events.Event.{Event}
use Rattle.mpc_claim.specs.declared.events.Phase.TheVariants.{Working, Stopped}
use Rattle.mpc_claim.specs.declared.candidates.Candidate.{Candidate}
use Rattle.mpc_claim.specs.Board.{Board, at, sets_of, is_wide}
use Rattle.mpc_claim.specs.History.{claimed_sets, ended_sets, has_drop, IsSettled, IsIdle, EndsQuiet, EndsWide, WantsMemory}
use Rattle.mpc_claim.specs.Books.{is_done, is_bad, IsQuiet, open_in, open_count, IsBegun, IsLineup, HasSlots, HasBad, IsKept}
use Rattle.mpc_claim.specs.Levels.{IsFirstBadPlace, HoldsCandidates}
use Rattle.mpc_claim.proofs.Sound.{settled_by, may_claim, shown_wide}
use Rattle.mpc_claim.proofs.NextCandidates.{size_of_candidate, IsCandidate-of, candidate_few}

pub whole_rest : {X : Type 0} (xs : List X) (n : ℕ) → take (length xs - n) (drop n xs) ≡ drop n xs
whole_rest xs n = ap (λ m. take m (drop n xs)) (sym (length-drop n xs)) ∙ take-length (drop n xs)

pub nil_of : {X : Type 0} (xs : List X) → length xs ≡ 0 → xs ≡ []
nil_of [] e = refl
nil_of (x ∷ xs) e = absurd (omega arith)

pub positive : (n : ℕ) → eqb n 0 ≡ false → 0 < n
positive zero e = absurd (cc)
positive (suc n) e = omega arith

-- the number of unknowns bounds the size of a level that has sets
pub small_size : (qp : Qp) (k : ℕ) (sets : List (List ℕ)) → HoldsCandidates qp (suc k) sets → 0 < length sets → k + 1 ≤ 6
small_size qp k [] h p = absurd (omega arith)
small_size qp k (s ∷ sets) h p =
    let c = h.are s (0, omega arith, refl) in
    let long = size_of_candidate (suc k) qp s c in
    let few = candidate_few qp s (IsCandidate-of (suc k) qp s c) in
    let most = qp.is_program.few_unknowns in
    omega arith

bad_books : (cs : List Candidate) (h : List Event) (settled place : ℕ) → has_drop h ≡ false → ((i : ℕ) → i < length cs → is_done (at cs i).slot ≡ true) → IsFirstBadPlace cs settled place → HasBad cs h
bad_books cs h settled place no_drop done b = record { no_drop = no_drop; done = done; place = place; in_range = b.in_range; bad = b.bad }

pub kept_stopped : (qp : Qp) (cs : List Candidate) (settled n pending size : ℕ) (h : List Event) (capacity place : ℕ) → IsKept qp cs settled n pending size Working h capacity → ((i : ℕ) → i < length cs → is_done (at cs i).slot ≡ true) → IsFirstBadPlace cs settled place → IsKept qp cs settled n pending size Stopped h capacity
kept_stopped qp cs settled n pending size h capacity place k done b = record {
  definite = k.definite;
  legal = k.legal;
  lineup = k.lineup;
  slots = k.slots;
  phase_fits = inr (bad_books cs h settled place k.phase_fits done b);
  room = k.room;
}

pub ends_wide : (qp : Qp) (cs : List Candidate) (settled n pending size : ℕ) (h : List Event) (capacity place : ℕ) → IsKept qp cs settled n pending size Working h capacity → ((i : ℕ) → i < length cs → is_done (at cs i).slot ≡ true) → IsFirstBadPlace cs settled place → EndsWide qp h
ends_wide qp cs settled n pending size h capacity place k done b = shown_wide qp cs settled n pending size h k.lineup k.slots (bad_books cs h settled place k.phase_fits done b)

-- ---- the first wide verdict
verdict_by : (qp : Qp) (h : List Event) (i : ℕ) (s : List ℕ) (slot : Slot) → is_done slot ≡ true → is_bad slot ≡ false → IsBegun qp h i s slot → (other : Verdict) × IsRight qp s other × (is_wide other ≡ false)
verdict_by qp h i s Waiting d q b = absurd b
verdict_by qp h i s (ClaimedSlot number) d q b = absurd (cc)
verdict_by qp h i s (Done v) d q b = (v, b.0, q)
verdict_by qp h i s Dropped d q b = absurd (cc)

pub first_bad_shown : (qp : Qp) (cs : List Candidate) (settled n pending size : ℕ) (h : List Event) (place : ℕ) (verdict : Verdict) → IsLineup qp (sets_of cs) settled size → HasSlots qp cs settled n pending h → HasBad cs h → IsFirstBadPlace cs settled place → (at cs place).slot ≡ Done verdict → IsFirstBad qp verdict
first_bad_shown qp cs settled n pending size h place verdict lineup k b first slot = record {
  set = (at cs place).set;
  candidate = lineup.candidates (at cs place).set (contains_at cs place first.in_range);
  right = (subst (IsBegun qp h place (at cs place).set) slot (k.begun place (all place first.in_range))).0;
  wide = ap is_bad (sym slot) ∙ first.bad;
  before = λ t c less.
      let p = first.in_range in
      let shorter = before_size t (at cs place).set less in
      let (i, q, e) = place_of cs t (lineup.complete t c (omega (arith, shorter, long))) in
      let earlier : i < place = place_before (sets_of cs) i place lineup.in_order (omega (arith, many)) (subst (λ u. IsBefore u (get_or (sets_of cs) place [])) (sym (set_at cs i ∙ e)) (subst (IsBefore t) (sym (set_at cs place)) less)) in
      subst (λ s. (other : Verdict) × IsRight qp s other × (is_wide other ≡ false)) e
      (verdict_by qp h i (at cs i).set (at cs i).slot (b.done i q) (good i earlier) (k.begun i (all i q)));
}
  where
    many : length (sets_of cs) ≡ length cs
    many = length-sets_of cs

    all : (i : ℕ) → i < length cs → i < n
    all i p = let e = all_claimed qp cs settled n pending h k b.done in omega arith

    long : length (at cs place).set ≡ size
    long = let p = first.in_range in ap length (sym (set_at cs place)) ∙ lineup.of_size place first.from_on (omega (arith, many))

    good : (i : ℕ) → i < place → is_bad (at cs i).slot ≡ false
    good i l = elim (cases_lt i settled) [ inl below ↦ (k.quiet i below).not_bad | inr m ↦ first.before i m l ]

-- ---- idle: some slot is claimed
some_open : (cs : List Candidate) → 0 < open_count cs → (i : ℕ) × (i < length cs) × (open_in (at cs i).slot ≡ 1)
some_open [] p = absurd (omega arith)
some_open (c ∷ cs) p =
    let parts = sum_by-append (λ (d : Candidate). open_in d.slot) (c ∷ []) cs in
    go c.slot refl (λ q. later (some_open cs q)) (omega (arith, parts))
  where
    later : (i : ℕ) × (i < length cs) × (open_in (at cs i).slot ≡ 1) → (i : ℕ) × (i < length (c ∷ cs)) × (open_in (at (c ∷ cs) i).slot ≡ 1)
    later (i, q, e) = (suc i, omega arith, e)

    go : (slot : Slot) → c.slot ≡ slot → (0 < open_count cs → (i : ℕ) × (i < length (c ∷ cs)) × (open_in (at (c ∷ cs) i).slot ≡ 1)) → 0 < open_in slot + open_count cs → (i : ℕ) × (i < length (c ∷ cs)) × (open_in (at (c ∷ cs) i).slot ≡ 1)
    go Waiting e r q = r (omega arith)
    go (ClaimedSlot number) e r q = (0, omega arith, ap open_in e)
    go (Done v) e r q = r (omega arith)
    go Dropped e r q = r (omega arith)

unended_by : (qp : Qp) (h : List Event) (i : ℕ) (s : List ℕ) (slot : Slot) → open_in slot ≡ 1 → IsBegun qp h i s slot → ¬ Contains (ended_sets h) s
unended_by qp h i s Waiting e b = absurd b
unended_by qp h i s (ClaimedSlot number) e b = b.1
unended_by qp h i s (Done v) e b = absurd (omega arith)
unended_by qp h i s Dropped e b = absurd (omega arith)

-- ---- what is known of the history between the calls
module _ (qp : Qp) (cs : List Candidate) (settled n pending size : ℕ) (h : List Event) (lineup : IsLineup qp (sets_of cs) settled size) (k : HasSlots qp cs settled n pending h) (no_drop : has_drop h ≡ false) where
  many : length (sets_of cs) ≡ length cs
  many = length-sets_of cs

  long_at : (i : ℕ) → i < length cs → length (at cs i).set ≤ size
  long_at i p =
      let named : length (get_or (sets_of cs) i []) ≡ length (at cs i).set = ap length (set_at cs i) in
      elim (cases_lt i settled) [
        | inl l ↦ let short = lineup.smaller i l in omega (arith, named, short)
        | inr m ↦ let long = lineup.of_size i m (omega (arith, many)) in omega (arith, named, long)
      ]

  pub listed_claimed : length cs ≤ n → (s : List ℕ) → Contains (sets_of cs) s → Contains (claimed_sets h) s
  listed_claimed all s c =
      let (j, q, f) = place_of cs s c in
      let within = k.within in
      subst (λ u. Contains u s) (sym k.claimed) (subst (Contains (take n (sets_of cs))) (set_at cs j ∙ f) (contains_in_front n (sets_of cs) j (omega arith) (omega (arith, many))))

  claimed_long : (s : List ℕ) → Contains (claimed_sets h) s → length s ≤ size
  claimed_long s c =
      let (j, below, within, e) = place_in_front n (sets_of cs) s (subst (λ u. Contains u s) k.claimed c) in
      let long = long_at j (omega (arith, many)) in
      let same : length (at cs j).set ≡ length s = ap length (sym (set_at cs j) ∙ e) in
      omega (arith, long, same)

  pub idle : length cs ≤ n → 0 < pending → IsIdle qp h
  idle all some =
      let count = k.counted in
      let (i, p, e) = some_open cs (omega arith) in
      let within = k.within in
      let listed : slice_get (claimed_sets h) i ≡ Some (at cs i).set = ap (λ u. slice_get u i) k.claimed ∙ number_in_front n (sets_of cs) i (omega arith) (omega (arith, many)) ∙ ap Some (set_at cs i) in
      let claim = claim_event h (at cs i).set (i, slice_get_within (claimed_sets h) i (at cs i).set listed, get_or_from_slice_get (claimed_sets h) i (at cs i).set (at cs i).set listed) in
      record {
        no_drop = no_drop;
        worker = claim.0;
        set = (at cs i).set;
        open_still = record { claimed = claim.1; open_still = unended_by qp h i (at cs i).set (at cs i).slot e (k.begun i (omega arith)) };
        all_claimed = λ t c l. let long = long_at i p in listed_claimed all t (lineup.complete t c (omega (arith, l, long)));
      }

  -- the first candidate that waits may be claimed
  pub wants_claim : n < length cs → WantsMemory qp h
  wants_claim p = inl ((at cs n).set, may_claim qp cs settled n pending size h lineup k no_drop p)

  pub ends_quiet : ((i : ℕ) → i < length cs → IsQuiet (at cs i).slot) → EndsQuiet qp h
  ends_quiet quiet =
      let n_is = all_claimed qp cs settled n pending h k (λ i p. (quiet i p).done) in
      let left = lineup.some_left in
      let here : settled < length cs = omega (arith, left, many) in
      let same : length (at cs settled).set ≡ size = ap length (sym (set_at cs settled)) ∙ lineup.of_size settled (omega arith) (omega (arith, many)) in
      record {
        no_drop = no_drop;
        last = (at cs settled).set;
        last_claimed = listed_claimed (omega arith) (at cs settled).set (contains_at cs settled here);
        greatest = λ s c. let long = claimed_long s c in omega (arith, long, same);
        settled = λ s c l.
            let (i, p, e) = place_of cs s (lineup.complete s c (omega (arith, l, same))) in
            subst (IsSettled h) e (settled_by qp h i (at cs i).set (at cs i).slot (quiet i p) (k.begun i (omega arith)));
      }

pub only_bad : (cs : List Candidate) (h : List Event) → has_drop h ≡ false → (has_drop h ≡ true) ⊎ HasBad cs h → HasBad cs h
only_bad cs h none (inl d) = absurd (cc)
only_bad cs h none (inr b) = b

-- ---- a claim that is refused
pub refused : (old new : Board) (worker : ℕ) (answer : Result Claimed NoMemory) → IsErr answer → new ≡ old → IsRefused old → Claims old worker answer new
refused old new worker (Ok claimed) e same r = absurd (cc)
refused old new worker (Err none) e same r = (same, r)
