-- A level that has ended, and the next one.
use Rattle.std.proofs.Common.{◌≡◌, ℕ, suc, ◌+◌, ◌-◌, ◌<◌, ◌≤◌, List, [], ◌∷◌, ◌++◌, true, false, map, length, get_or, take, drop, Contains, refl, sym, ap, ◌∙◌, subst, inl, inr, arith}
use Rattle.std.specs.Prelude.{Any}
use Rattle.std.proofs.Math.ListN.{get_or-map}
use Rattle.std.proofs.Math.Seq.{get_or-append_right}
use Rattle.std.proofs.lemmas.Bool.{cases_lt}
use Rattle.std.proofs.lemmas.List.{length-append, length-drop, get_or_append_left, get_or-drop, get_or_default, map-append, take-append-le}
use Rattle.std.proofs.lemmas.List.Elements.{Contains-get_or, Contains-append_left, Contains-append_right, Contains-append_cases}
use Rattle.std.proofs.lemmas.List.Sums.{sum_by-append}
use Rattle.mpc_sets.specs.SetTheorems.{MemberTheorems}
use Rattle.mpc_sets.specs.SetOrder.{IsBefore, IsInOrder}
use Rattle.mpc_sets.specs.NextLevel.{IsLevel}
use Rattle.mpc_rows.specs.declared.programs.Qp.{Qp}
use Rattle.mpc_rows.specs.declared.verdicts.Verdict.{Verdict}
use Rattle.mpc_rows.specs.declared.verdicts.Verdict.TheVariants.{Dependent, Unreachable, Hollow, Region, Wide}
use Rattle.mpc_rows.specs.Candidates.{IsCandidateOf, IsCandidate, CanGrow}
use Rattle.mpc_rows.specs.Verdicts.{IsRight}
use Rattle.mpc_claim.specs.declared.events.Event.{Event}
use Rattle.mpc_claim.specs.declared.events.Phase.TheVariants.{Working, Finished}
use Rattle.mpc_claim.specs.declared.candidates.Candidate.{Candidate}
use Rattle.mpc_claim.specs.declared.candidates.Slot.{Slot}
use Rattle.mpc_claim.specs.declared.candidates.Slot.TheVariants.{Waiting, Claimed, Done as DoneSlot, Dropped}
use Rattle.mpc_claim.specs.Board.{at, sets_of, waiting, is_wide, can_grow}
use Rattle.mpc_claim.specs.Books.{is_done, IsQuiet, open_in, open_count, IsBegun, IsLineup, HasSlots, IsKept}
use Rattle.mpc_claim.specs.Levels.{slot_grows, grown_of, HoldsGrown, HoldsCandidates}
use Rattle.mpc_claim.proofs.Lists.{set_at, length-sets_of, place_of, shorter_before}
use Rattle.mpc_claim.proofs.Growth.{in_order_tail, in_order_head, in_order_cons, contains_later, place_of_grown, contains_grown}
use Rattle.mpc_claim.proofs.Slots.{not_waiting_done}
use Rattle.mpc_claim.proofs.NextCandidates.{size_of_candidate, IsCandidateOf-size, IsCandidate-of, none_greater}

-- ---- verdicts with which a set can grow
grows_rightly : (qp : Qp) (s : List ℕ) (v : Verdict) → IsRight qp s v → can_grow v ≡ true → CanGrow qp s
grows_rightly qp s Dependent r e = absurd (cc)
grows_rightly qp s Unreachable r e = absurd (cc)
grows_rightly qp s Hollow r e = r.0.0
grows_rightly qp s (Region law) r e = r.0.0
grows_rightly qp s (Wide place) r e = absurd (cc)

must_grow : (qp : Qp) (s : List ℕ) (v : Verdict) → IsRight qp s v → is_wide v ≡ false → CanGrow qp s → can_grow v ≡ true
must_grow qp s Dependent r e g = absurd (r.0 g.independent)
must_grow qp s Unreachable r e g = absurd (r.0.1 g.reachable)
must_grow qp s Hollow r e g = refl
must_grow qp s (Region law) r e g = refl
must_grow qp s (Wide place) r e g = absurd (cc)

slot_grows_rightly : (qp : Qp) (h : List Event) (i : ℕ) (s : List ℕ) (slot : Slot) → IsBegun qp h i s slot → slot_grows slot ≡ true → CanGrow qp s
slot_grows_rightly qp h i s Waiting b e = absurd b
slot_grows_rightly qp h i s (Claimed number) b e = absurd (cc)
slot_grows_rightly qp h i s (DoneSlot v) b e = grows_rightly qp s v b.0 e
slot_grows_rightly qp h i s Dropped b e = absurd (cc)

slot_must_grow : (qp : Qp) (h : List Event) (i : ℕ) (s : List ℕ) (slot : Slot) → IsBegun qp h i s slot → IsQuiet slot → CanGrow qp s → slot_grows slot ≡ true
slot_must_grow qp h i s Waiting b q g = absurd b
slot_must_grow qp h i s (Claimed number) b q g = let d = q.done in absurd (cc)
slot_must_grow qp h i s (DoneSlot v) b q g = must_grow qp s v b.0 q.not_bad g
slot_must_grow qp h i s Dropped b q g = let d = q.done in absurd (cc)

-- ---- the level of a registry
at_later : (cs : List Candidate) (settled i : ℕ) → at (drop settled cs) i ≡ at cs (settled + i)
at_later cs settled i = get_or-drop settled cs i (waiting [])

sets_at_later : (cs : List Candidate) (settled i : ℕ) (d : List ℕ) → i < length (drop settled cs) → get_or (sets_of (drop settled cs)) i d ≡ get_or (sets_of cs) (settled + i) []
sets_at_later cs settled i d p =
    let l = length-sets_of (drop settled cs) in
    get_or_default (sets_of (drop settled cs)) i d [] (omega (arith, l)) ∙ set_at (drop settled cs) i ∙ ap (λ (c : Candidate). c.set) (at_later cs settled i) ∙ sym (set_at cs (settled + i))

module _ (qp : Qp) (cs : List Candidate) (settled n pending size : ℕ) (h : List Event) where
  pub level_is_level : IsLineup qp (sets_of cs) settled size → IsLevel (sets_of (drop settled cs))
  level_is_level lineup = record {
    in_order = λ i j d p q.
        let l = length-sets_of (drop settled cs) in
        let m = length-drop settled cs in
        let many = length-sets_of cs in
        subst (λ u. IsBefore u (get_or (sets_of (drop settled cs)) j d)) (sym (sets_at_later cs settled i d (omega (arith, l))))
        (subst (IsBefore (get_or (sets_of cs) (settled + i) [])) (sym (sets_at_later cs settled j d (omega (arith, l))))
        (lineup.in_order (settled + i) (settled + j) [] (omega arith) (omega (arith, l, m, many))));
    one_size = λ s t c d. size_here s c ∙ sym (size_here t d);
  }
    where
      size_here : (s : List ℕ) → Contains (sets_of (drop settled cs)) s → length s ≡ size
      size_here s (i, p, e) =
          let l = length-sets_of (drop settled cs) in
          let m = length-drop settled cs in
          let many = length-sets_of cs in
          ap length (sym e ∙ sets_at_later cs settled i s (omega (arith, l))) ∙ lineup.of_size (settled + i) (omega arith) (omega (arith, l, m, many))

  pub level_grows : IsLineup qp (sets_of cs) settled size → HasSlots qp cs settled n pending h → length cs ≤ n → ((i : ℕ) → i < length cs → IsQuiet (at cs i).slot) → HoldsGrown qp size (grown_of (drop settled cs))
  level_grows lineup k all quiet = record {
    are = λ s c.
        let g = place_of_grown (drop settled cs) s c in
        let m = length-drop settled cs in
        let many = length-sets_of cs in
        let here = g.in_range in
        let place_here = at_later cs settled g.place in
        let set_is : (at cs (settled + g.place)).set ≡ s = ap (λ (c : Candidate). c.set) (sym place_here) ∙ g.set_is in
        let grows : slot_grows (at cs (settled + g.place)).slot ≡ true = ap (λ (c : Candidate). slot_grows c.slot) (sym place_here) ∙ g.grows in
        let named : get_or (sets_of cs) (settled + g.place) [] ≡ s = set_at cs (settled + g.place) ∙ set_is in
        let long : length s ≡ size = ap length (sym named) ∙ lineup.of_size (settled + g.place) (omega arith) (omega (arith, m, many)) in (
          IsCandidateOf-size size qp s long (lineup.candidates s (subst (Contains (sets_of cs)) named (Contains-get_or (sets_of cs) (settled + g.place) [] (omega (arith, m, many))))),
          subst (CanGrow qp) set_is (slot_grows_rightly qp h (settled + g.place) (at cs (settled + g.place)).set (at cs (settled + g.place)).slot (k.begun (settled + g.place) (omega (arith, m))) grows),
        );
    complete = λ s c g.
        let long = size_of_candidate size qp s c in
        let (i, p, e) = place_of cs s (lineup.complete s (IsCandidate-of size qp s c) (omega (arith, long))) in
        let named : get_or (sets_of cs) i [] ≡ s = set_at cs i ∙ e in
        let many = length-sets_of cs in
        let later : settled ≤ i = elim (cases_lt i settled) [
          | inl l ↦ let short = lineup.smaller i l in let same : length (get_or (sets_of cs) i []) ≡ length s = ap length named in absurd (omega (arith, short, same, long))
          | inr m ↦ m
        ] in
        let back : settled + (i - settled) ≡ i = omega (arith, later) in
        let m = length-drop settled cs in
        let place_here : at (drop settled cs) (i - settled) ≡ at cs i = at_later cs settled (i - settled) ∙ ap (at cs) back in
        let grows : slot_grows (at cs i).slot ≡ true = slot_must_grow qp h i (at cs i).set (at cs i).slot (k.begun i (omega arith)) (quiet i p) (subst (CanGrow qp) (sym e) g) in
        subst (Contains (grown_of (drop settled cs))) (ap (λ (c : Candidate). c.set) place_here ∙ e)
        (contains_grown (drop settled cs) (i - settled) (omega (arith, m, later)) (ap (λ (c : Candidate). slot_grows c.slot) place_here ∙ grows));
  }

  -- where no candidate has a greater size, all have their places
  pub complete_at_end : MemberTheorems → IsLineup qp (sets_of cs) settled size → HoldsCandidates qp (suc size) [] → (s : List ℕ) → IsCandidate qp s → Contains (sets_of cs) s
  complete_at_end members lineup none s c = elim (cases_lt size (length s)) [
    | inr l ↦ lineup.complete s c l
    | inl l ↦
        let back : length s ≡ suc (length s - size - 1 + size) = omega (arith, l) in
        absurd (none_greater members qp size (λ t d. nothing t (none.complete t d)) s (length s - size - 1) (subst (λ m. IsCandidateOf m qp s) back c))
  ]
    where
      nothing : (t : List ℕ) → Contains [] t → ⊥
      nothing t (i, p, e) = omega arith

-- ---- the next level behind the candidates
in_order_append : (sets others : List (List ℕ)) → IsInOrder sets → IsInOrder others → ((s t : List ℕ) → Contains sets s → Contains others t → IsBefore s t) → IsInOrder (sets ++ others)
in_order_append [] others h k f = k
in_order_append (s ∷ sets) others h k f =
    in_order_cons s (sets ++ others)
    (λ t c. elim (Contains-append_cases sets others t c) [ inl d ↦ in_order_head s t sets h d | inr d ↦ f s t (0, omega arith, refl) d ])
    (in_order_append sets others (in_order_tail s sets h) k (λ u t c d. f u t (contains_later s u sets c) d))

sets_of_waiting : (sets : List (List ℕ)) → sets_of (map waiting sets) ≡ sets
sets_of_waiting [] = refl
sets_of_waiting (s ∷ sets) = ap (λ u. s ∷ u) (sets_of_waiting sets)

none_open : (sets : List (List ℕ)) → open_count (map waiting sets) ≡ 0
none_open [] = refl
none_open (s ∷ sets) = let e = none_open sets in omega (arith, e)

sets_after : (cs : List Candidate) (sets : List (List ℕ)) → sets_of (cs ++ map waiting sets) ≡ sets_of cs ++ sets
sets_after cs sets = map-append (λ (c : Candidate). c.set) cs (map waiting sets) ∙ ap (λ u. sets_of cs ++ u) (sets_of_waiting sets)

at_front : (cs ds : List Candidate) (i : ℕ) → i < length cs → at (cs ++ ds) i ≡ at cs i
at_front cs ds i p = get_or_append_left cs ds (waiting []) i p

waits_behind : (cs : List Candidate) (sets : List (List ℕ)) (i : ℕ) → length cs ≤ i → (at (cs ++ map waiting sets) i).slot ≡ Waiting
waits_behind cs sets i p =
    ap (λ (c : Candidate). c.slot) (get_or-append_right cs (map waiting sets) i (waiting []) p ∙ get_or-map waiting sets (i - length cs) [])

lineup_after : (qp : Qp) (old sets : List (List ℕ)) (settled size : ℕ) → IsLineup qp old settled size → HoldsCandidates qp (suc size) sets → 0 < length sets → IsLineup qp (old ++ sets) (length old) (size + 1)
lineup_after qp old sets settled size h k some =
    let l = length-append old sets in
    record {
      in_order = in_order_append old sets h.in_order k.in_order (λ s t c d.
          let short = small s c in
          let long = size_of_candidate (suc size) qp t (k.are t d) in
          shorter_before s t (omega arith));
      candidates = λ s c. elim (Contains-append_cases old sets s c) [ inl d ↦ h.candidates s d | inr d ↦ IsCandidate-of (suc size) qp s (k.are s d) ];
      complete = λ s c p. elim (cases_lt size (length s)) [
        | inr l ↦ Contains-append_left old sets s (h.complete s c l)
        | inl l ↦ let e : length s ≡ suc size = omega arith in Contains-append_right old sets s (k.complete s (IsCandidateOf-size (suc size) qp s e c))
      ];
      some_left = omega (arith, l);
      smaller = λ i p.
          let e : length (get_or (old ++ sets) i []) ≡ length (get_or old i []) = ap length (get_or_append_left old sets [] i p) in
          let short = small (get_or old i []) (Contains-get_or old i [] p) in
          omega arith;
      of_size = λ i p q.
          let e : length (get_or (old ++ sets) i []) ≡ length (get_or sets (i - length old) []) = ap length (get_or-append_right old sets i [] p) in
          let long = size_of_candidate (suc size) qp (get_or sets (i - length old) []) (k.are (get_or sets (i - length old) []) (Contains-get_or sets (i - length old) [] (omega (arith, l)))) in
          omega arith;
    }
  where
    small : (s : List ℕ) → Contains old s → length s ≤ size
    small s (i, p, e) = elim (cases_lt i settled) [
      | inl l ↦ let a = h.smaller i l in let b : length (get_or old i []) ≡ length s = ap length (get_or_default old i [] s p ∙ e) in omega arith
      | inr m ↦ let a = h.of_size i m p in let b : length (get_or old i []) ≡ length s = ap length (get_or_default old i [] s p ∙ e) in omega arith
    ]

slots_after : (qp : Qp) (cs : List Candidate) (sets : List (List ℕ)) (settled n pending : ℕ) (h : List Event) → HasSlots qp cs settled n pending h → length cs ≤ n → ((i : ℕ) → i < length cs → IsQuiet (at cs i).slot) → HasSlots qp (cs ++ map waiting sets) (length cs) n pending h
slots_after qp cs sets settled n pending h k all quiet =
    let l = length-append cs (map waiting sets) in
    let many = length-sets_of cs in
    let within = k.within in
    record {
      claimed = k.claimed ∙ sym (take-append-le n (sets_of cs) sets (omega (arith, many))) ∙ ap (take n) (sym (sets_after cs sets));
      within = omega (arith, l);
      begun = λ i p. subst (λ (c : Candidate). IsBegun qp h i c.set c.slot) (sym (at_front cs (map waiting sets) i (omega arith))) (k.begun i p);
      rest = λ i p. waits_behind cs sets i (omega arith);
      counted =
          let sums = sum_by-append (λ (c : Candidate). open_in c.slot) cs (map waiting sets) in
          let none = none_open sets in
          let count = k.counted in
          omega (arith, sums, none, count);
      quiet = λ i p. subst (λ (c : Candidate). IsQuiet c.slot) (sym (at_front cs (map waiting sets) i p)) (quiet i p);
    }

pub kept_level : (qp : Qp) (cs : List Candidate) (sets : List (List ℕ)) (settled n pending size : ℕ) (h : List Event) (capacity : ℕ) → IsKept qp cs settled n pending size Working h capacity → length cs ≤ n → ((i : ℕ) → i < length cs → IsQuiet (at cs i).slot) → HoldsCandidates qp (suc size) sets → 0 < length sets → IsKept qp (cs ++ map waiting sets) (length cs) n pending (size + 1) Working h capacity
kept_level qp cs sets settled n pending size h capacity k all quiet next some = record {
  definite = k.definite;
  legal = k.legal;
  lineup = subst (λ u. IsLineup qp u (length cs) (size + 1)) (sym (sets_after cs sets)) (subst (λ m. IsLineup qp (sets_of cs ++ sets) m (size + 1)) (length-sets_of cs) (lineup_after qp (sets_of cs) sets settled size k.lineup next some));
  slots = slots_after qp cs sets settled n pending h k.slots all quiet;
  phase_fits = k.phase_fits;
  room = k.room;
}

pub kept_finished : MemberTheorems → (qp : Qp) (cs : List Candidate) (settled n pending size : ℕ) (h : List Event) (capacity : ℕ) → IsKept qp cs settled n pending size Working h capacity → ((i : ℕ) → i < length cs → IsQuiet (at cs i).slot) → HoldsCandidates qp (suc size) [] → IsKept qp cs settled n pending size Finished h capacity
kept_finished members qp cs settled n pending size h capacity k quiet none = record {
  definite = k.definite;
  legal = k.legal;
  lineup = k.lineup;
  slots = k.slots;
  phase_fits = record { no_drop = k.phase_fits; quiet = quiet; complete = complete_at_end qp cs settled n pending size h members k.lineup none };
  room = k.room;
}

-- a registry whose slots are all quiet has claimed all
pub all_claimed : (qp : Qp) (cs : List Candidate) (settled n pending : ℕ) (h : List Event) → HasSlots qp cs settled n pending h → ((i : ℕ) → i < length cs → is_done (at cs i).slot ≡ true) → n ≡ length cs
all_claimed qp cs settled n pending h k done = elim (cases_lt n (length cs)) [
  | inl l ↦ absurd (not_waiting_done (at cs n).slot (k.rest n (omega arith)) (done n l))
  | inr m ↦ let w = k.within in omega arith
]

-- a waiting slot shows that some candidate isn't claimed
pub some_waiting : (qp : Qp) (cs : List Candidate) (settled n pending : ℕ) (h : List Event) → HasSlots qp cs settled n pending h → Any (λ (c : Candidate). c.slot ≡ Waiting) cs → n < length cs
some_waiting qp cs settled n pending h k (i, c, p, e, f) = elim (cases_lt i n) [
  | inl l ↦ absurd (subst (IsBegun qp h i (at cs i).set) (ap (λ (d : Candidate). d.slot) (get_or_default cs i (waiting []) c p ∙ e) ∙ f) (k.begun i l))
  | inr m ↦ omega arith
]

pub waiting_at : (qp : Qp) (cs : List Candidate) (settled n pending : ℕ) (h : List Event) → HasSlots qp cs settled n pending h → n < length cs → Any (λ (c : Candidate). c.slot ≡ Waiting) cs
waiting_at qp cs settled n pending h k p = (n, at cs n, p, get_or_default cs n (at cs n) (waiting []) p, k.rest n (omega arith))
