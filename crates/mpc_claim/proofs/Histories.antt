-- One event more.
use Rattle.std.proofs.Common.{◌≡◌, ◌≢◌, ℕ, zero, suc, ◌<◌, List, [], ◌∷◌, ◌++◌, Bool, true, false, length, get_or, Contains, refl, sym, ap, ◌∙◌, subst, inl, inr, arith}
use Rattle.std.specs.Prelude.{◌||◌, if◌then◌else◌, AllPairs}
use Rattle.std.proofs.lemmas.List.{append_assoc, append-nil}
use Rattle.std.proofs.lemmas.List.Elements.{Contains-append_left, Contains-push_cases, Contains-get_or}
use Rattle.std.proofs.lemmas.List.Quantifiers.{all_pairs_push}
use Rattle.mpc_rows.specs.declared.programs.Qp.{Qp}
use Rattle.mpc_rows.specs.Candidates.{IsCandidate}
use Rattle.mpc_claim.specs.declared.events.Event.{Event}
use Rattle.mpc_claim.specs.declared.events.EventKind.{EventKind}
use Rattle.mpc_claim.specs.declared.events.EventKind.TheVariants.{Claim, Done, Drop}
use Rattle.mpc_claim.specs.declared.events.Tag.{Tag}
use Rattle.mpc_claim.specs.Board.{event}
use Rattle.mpc_claim.specs.History.{is_claim, is_drop, claimed_sets, ended_sets, has_drop, IsDone, MayEnd, MayFollow, IsLegalAfter, IsLegal}

pub claimed_sets-append : (es fs : List Event) → claimed_sets (es ++ fs) ≡ claimed_sets es ++ claimed_sets fs
claimed_sets-append [] fs = refl
claimed_sets-append (e ∷ es) fs =
    ap (λ u. (if is_claim e.kind then e.set ∷ [] else []) ++ u) (claimed_sets-append es fs)
    ∙ sym (append_assoc (if is_claim e.kind then e.set ∷ [] else []) (claimed_sets es) (claimed_sets fs))

pub ended_sets-append : (es fs : List Event) → ended_sets (es ++ fs) ≡ ended_sets es ++ ended_sets fs
ended_sets-append [] fs = refl
ended_sets-append (e ∷ es) fs =
    ap (λ u. (if is_claim e.kind then [] else e.set ∷ []) ++ u) (ended_sets-append es fs)
    ∙ sym (append_assoc (if is_claim e.kind then [] else e.set ∷ []) (ended_sets es) (ended_sets fs))

or_assoc : (a b c : Bool) → (a || (b || c)) ≡ ((a || b) || c)
or_assoc true b c = refl
or_assoc false b c = refl

or_none : (a : Bool) → (a || false) ≡ a
or_none true = refl
or_none false = refl

or_right : (a : Bool) → (a || true) ≡ true
or_right true = refl
or_right false = refl

pub has_drop-append : (es fs : List Event) → has_drop (es ++ fs) ≡ (has_drop es || has_drop fs)
has_drop-append [] fs = refl
has_drop-append (x ∷ es) fs = ap (λ b. is_drop x.kind || b) (has_drop-append es fs) ∙ or_assoc (is_drop x.kind) (has_drop es) (has_drop fs)

pub has_drop-push : (es : List Event) (e : Event) → has_drop (es ++ e ∷ []) ≡ (has_drop es || is_drop e.kind)
has_drop-push [] e = or_none (is_drop e.kind)
has_drop-push (x ∷ es) e = ap (λ b. is_drop x.kind || b) (has_drop-push es e) ∙ or_assoc (is_drop x.kind) (has_drop es) (is_drop e.kind)

-- ---- by the kind of the event
pub claimed-claim : (es : List Event) (w : ℕ) (s : List ℕ) → claimed_sets (es ++ event w s Claim ∷ []) ≡ claimed_sets es ++ s ∷ []
claimed-claim es w s = claimed_sets-append es (event w s Claim ∷ [])

pub claimed-end : (es : List Event) (w : ℕ) (s : List ℕ) (kind : EventKind) → is_claim kind ≡ false → claimed_sets (es ++ event w s kind ∷ []) ≡ claimed_sets es
claimed-end es w s kind e =
    claimed_sets-append es (event w s kind ∷ []) ∙ ap (λ (b : Bool). claimed_sets es ++ ((if b then s ∷ [] else []) ++ [])) e ∙ append-nil (claimed_sets es)

pub ended-claim : (es : List Event) (w : ℕ) (s : List ℕ) → ended_sets (es ++ event w s Claim ∷ []) ≡ ended_sets es
ended-claim es w s = ended_sets-append es (event w s Claim ∷ []) ∙ append-nil (ended_sets es)

pub ended-end : (es : List Event) (w : ℕ) (s : List ℕ) (kind : EventKind) → is_claim kind ≡ false → ended_sets (es ++ event w s kind ∷ []) ≡ ended_sets es ++ s ∷ []
ended-end es w s kind e = ended_sets-append es (event w s kind ∷ []) ∙ ap (λ (b : Bool). ended_sets es ++ ((if b then [] else s ∷ []) ++ [])) e

pub has_drop-same : (es : List Event) (w : ℕ) (s : List ℕ) (kind : EventKind) → is_drop kind ≡ false → has_drop (es ++ event w s kind ∷ []) ≡ has_drop es
has_drop-same es w s kind e = has_drop-push es (event w s kind) ∙ ap (λ b. has_drop es || b) e ∙ or_none (has_drop es)

pub has_drop-drop : (es : List Event) (w : ℕ) (s : List ℕ) → has_drop (es ++ event w s Drop ∷ []) ≡ true
has_drop-drop es w s = has_drop-push es (event w s Drop) ∙ or_right (has_drop es)

-- ---- what stays so
pub IsDone-more : (es fs : List Event) (s : List ℕ) (tag : Tag) → IsDone es s tag → IsDone (es ++ fs) s tag
IsDone-more es fs s tag d = record { worker = d.worker; delivery = Contains-append_left es fs (event d.worker s (Done tag)) d.delivery }

-- a delivered set is ended, and so is one that was given up
pub contains_ended : (es : List Event) (w : ℕ) (s : List ℕ) (kind : EventKind) → is_claim kind ≡ false → (i : ℕ) → i < length es → get_or es i (event w s kind) ≡ event w s kind → Contains (ended_sets es) s
contains_ended [] w s kind e i p q = absurd (omega arith)
contains_ended (x ∷ es) w s kind e zero p q =
    let k : is_claim x.kind ≡ false = ap (λ (y : Event). is_claim y.kind) q ∙ e in
    let named : x.set ≡ s = ap (λ (y : Event). y.set) q in
    subst (λ (b : Bool). Contains ((if b then [] else x.set ∷ []) ++ ended_sets es) s) (sym k) (0, omega arith, named)
contains_ended (x ∷ es) w s kind e (suc i) p q = go (is_claim x.kind) (contains_ended es w s kind e i (omega arith) q)
  where
    go : (b : Bool) → Contains (ended_sets es) s → Contains ((if b then [] else x.set ∷ []) ++ ended_sets es) s
    go true c = c
    go false (j, l, f) = (suc j, omega arith, f)

pub ended_by_done : (es : List Event) (s : List ℕ) (tag : Tag) → IsDone es s tag → Contains (ended_sets es) s
ended_by_done es s tag d = let (i, p, e) = d.delivery in contains_ended es d.worker s (Done tag) refl i p e

pub ended_by_drop : (es : List Event) (w : ℕ) (s : List ℕ) → Contains es (event w s Drop) → Contains (ended_sets es) s
ended_by_drop es w s (i, p, e) = contains_ended es w s Drop refl i p e

pub drop_shows : (es : List Event) (w : ℕ) (s : List ℕ) → Contains es (event w s Drop) → has_drop es ≡ true
drop_shows es w s (i, p, e) = go es i p e
  where
    go : (es : List Event) (i : ℕ) → i < length es → get_or es i (event w s Drop) ≡ event w s Drop → has_drop es ≡ true
    go [] i p q = absurd (omega arith)
    go (x ∷ es) zero p q = let k : is_drop x.kind ≡ true = ap (λ (y : Event). is_drop y.kind) q in ap (λ b. b || has_drop es) k
    go (x ∷ es) (suc i) p q = ap (λ b. is_drop x.kind || b) (go es i (omega arith) q) ∙ or_right (is_drop x.kind)

-- ---- legal histories
pub IsLegalAfter-push : (qp : Qp) (past es : List Event) (e : Event) → IsLegalAfter qp past es → MayFollow qp (past ++ es) e.worker e.set e.kind → IsLegalAfter qp past (es ++ e ∷ [])
IsLegalAfter-push qp past [] e h m = (subst (λ p. MayFollow qp p e.worker e.set e.kind) (append-nil past) m, tt)
IsLegalAfter-push qp past (x ∷ es) e h m = (h.0, IsLegalAfter-push qp (past ++ x ∷ []) es e h.1 (subst (λ p. MayFollow qp p e.worker e.set e.kind) (sym (append_assoc past (x ∷ []) es)) m))

pub IsLegal-push : (qp : Qp) (es : List Event) (e : Event) → IsLegal qp es → MayFollow qp es e.worker e.set e.kind → IsLegal qp (es ++ e ∷ [])
unfolding IsLegal
IsLegal-push qp es e h m = IsLegalAfter-push qp [] es e h m

pub legal_nothing : (qp : Qp) → IsLegal qp []
unfolding IsLegal
legal_nothing qp = tt

-- what comes last may follow what is before it
IsLegalAfter-last : (qp : Qp) (past es : List Event) (e : Event) → IsLegalAfter qp past (es ++ e ∷ []) → MayFollow qp (past ++ es) e.worker e.set e.kind
IsLegalAfter-last qp past [] e h = subst (λ p. MayFollow qp p e.worker e.set e.kind) (sym (append-nil past)) h.0
IsLegalAfter-last qp past (x ∷ es) e h = subst (λ p. MayFollow qp p e.worker e.set e.kind) (append_assoc past (x ∷ []) es) (IsLegalAfter-last qp (past ++ x ∷ []) es e h.1)

pub IsLegal-last : (qp : Qp) (es : List Event) (e : Event) → IsLegal qp (es ++ e ∷ []) → MayFollow qp es e.worker e.set e.kind
unfolding IsLegal
IsLegal-last qp es e h = IsLegalAfter-last qp [] es e h

-- a beginning of a legal history is legal
pub IsLegalAfter-front : (qp : Qp) (past es fs : List Event) → IsLegalAfter qp past (es ++ fs) → IsLegalAfter qp past es
IsLegalAfter-front qp past [] fs h = tt
IsLegalAfter-front qp past (x ∷ es) fs h = (h.0, IsLegalAfter-front qp (past ++ x ∷ []) es fs h.1)

pub IsLegal-front : (qp : Qp) (es fs : List Event) → IsLegal qp (es ++ fs) → IsLegal qp es
unfolding IsLegal
IsLegal-front qp es fs h = IsLegalAfter-front qp [] es fs h

-- a legal history claims no set twice
different_push : (sets : List (List ℕ)) (s : List ℕ) → AllPairs (λ (t u : List ℕ). t ≢ u) sets → ¬ Contains sets s → AllPairs (λ (t u : List ℕ). t ≢ u) (sets ++ s ∷ [])
different_push sets s h fresh = all_pairs_push (λ (t u : List ℕ). t ≢ u) sets s h (λ k d p e. fresh (subst (Contains sets) e (Contains-get_or sets k d p)))

claims_differ : (qp : Qp) (past es : List Event) → IsLegalAfter qp past es → AllPairs (λ (t u : List ℕ). t ≢ u) (claimed_sets past) → AllPairs (λ (t u : List ℕ). t ≢ u) (claimed_sets (past ++ es))
claims_differ qp past [] h d = subst (λ p. AllPairs (λ (t u : List ℕ). t ≢ u) (claimed_sets p)) (sym (append-nil past)) d
claims_differ qp past (e ∷ es) h d =
    subst (λ p. AllPairs (λ (t u : List ℕ). t ≢ u) (claimed_sets p)) (append_assoc past (e ∷ []) es)
    (claims_differ qp (past ++ e ∷ []) es h.1 (step e.kind h.0))
  where
    step : (kind : EventKind) → MayFollow qp past e.worker e.set kind → AllPairs (λ (t u : List ℕ). t ≢ u) (claimed_sets (past ++ event e.worker e.set kind ∷ []))
    step Claim m = subst (AllPairs (λ (t u : List ℕ). t ≢ u)) (sym (claimed-claim past e.worker e.set)) (different_push (claimed_sets past) e.set d m.fresh)
    step (Done tag) m = subst (AllPairs (λ (t u : List ℕ). t ≢ u)) (sym (claimed-end past e.worker e.set (Done tag) refl)) d
    step Drop m = subst (AllPairs (λ (t u : List ℕ). t ≢ u)) (sym (claimed-end past e.worker e.set Drop refl)) d

pub no_set_claimed_twice : (qp : Qp) (es : List Event) → IsLegal qp es → AllPairs (λ (t u : List ℕ). t ≢ u) (claimed_sets es)
unfolding IsLegal
no_set_claimed_twice qp es h = claims_differ qp [] es h (λ i j d p q. absurd (omega arith))

ends_differ : (qp : Qp) (past es : List Event) → IsLegalAfter qp past es → AllPairs (λ (t u : List ℕ). t ≢ u) (ended_sets past) → AllPairs (λ (t u : List ℕ). t ≢ u) (ended_sets (past ++ es))
ends_differ qp past [] h d = subst (λ p. AllPairs (λ (t u : List ℕ). t ≢ u) (ended_sets p)) (sym (append-nil past)) d
ends_differ qp past (e ∷ es) h d =
    subst (λ p. AllPairs (λ (t u : List ℕ). t ≢ u) (ended_sets p)) (append_assoc past (e ∷ []) es)
    (ends_differ qp (past ++ e ∷ []) es h.1 (step e.kind h.0))
  where
    step : (kind : EventKind) → MayFollow qp past e.worker e.set kind → AllPairs (λ (t u : List ℕ). t ≢ u) (ended_sets (past ++ event e.worker e.set kind ∷ []))
    step Claim m = subst (AllPairs (λ (t u : List ℕ). t ≢ u)) (sym (ended-claim past e.worker e.set)) d
    step (Done tag) m = subst (AllPairs (λ (t u : List ℕ). t ≢ u)) (sym (ended-end past e.worker e.set (Done tag) refl)) (different_push (ended_sets past) e.set d m.0.open_still)
    step Drop m = subst (AllPairs (λ (t u : List ℕ). t ≢ u)) (sym (ended-end past e.worker e.set Drop refl)) (different_push (ended_sets past) e.set d m.open_still)

-- nor ends one twice
pub no_set_ended_twice : (qp : Qp) (es : List Event) → IsLegal qp es → AllPairs (λ (t u : List ℕ). t ≢ u) (ended_sets es)
unfolding IsLegal
no_set_ended_twice qp es h = ends_differ qp [] es h (λ i j d p q. absurd (omega arith))

-- ---- what is ended was claimed
pub contains_claimed : (es : List Event) (w : ℕ) (s : List ℕ) → Contains es (event w s Claim) → Contains (claimed_sets es) s
contains_claimed es w s (i, p, e) = go es i p e
  where
    go : (es : List Event) (i : ℕ) → i < length es → get_or es i (event w s Claim) ≡ event w s Claim → Contains (claimed_sets es) s
    go [] i p q = absurd (omega arith)
    go (x ∷ es) zero p q =
        let k : is_claim x.kind ≡ true = ap (λ (y : Event). is_claim y.kind) q in
        let named : x.set ≡ s = ap (λ (y : Event). y.set) q in
        subst (λ (b : Bool). Contains ((if b then x.set ∷ [] else []) ++ claimed_sets es) s) (sym k) (0, omega arith, named)
    go (x ∷ es) (suc i) p q = later (is_claim x.kind) x.set (claimed_sets es) (go es i (omega arith) q)
      where
        later : (b : Bool) (t : List ℕ) (sets : List (List ℕ)) → Contains sets s → Contains ((if b then t ∷ [] else []) ++ sets) s
        later true t sets (j, l, f) = (suc j, omega arith, f)
        later false t sets c = c

ended_claimed : (qp : Qp) (past es : List Event) (s : List ℕ) → IsLegalAfter qp past es → (Contains (ended_sets past) s → Contains (claimed_sets past) s) → Contains (ended_sets (past ++ es)) s → Contains (claimed_sets (past ++ es)) s
ended_claimed qp past [] s h f c = subst (λ p. Contains (claimed_sets p) s) (sym (append-nil past)) (f (subst (λ p. Contains (ended_sets p) s) (append-nil past) c))
ended_claimed qp past (e ∷ es) s h f c =
    subst (λ p. Contains (claimed_sets p) s) (append_assoc past (e ∷ []) es)
    (ended_claimed qp (past ++ e ∷ []) es s h.1 (step e.kind h.0) (subst (λ p. Contains (ended_sets p) s) (sym (append_assoc past (e ∷ []) es)) c))
  where
    ended_now : (kind : EventKind) → is_claim kind ≡ false → MayEnd past e.worker e.set → Contains (ended_sets (past ++ event e.worker e.set kind ∷ [])) s → Contains (claimed_sets (past ++ event e.worker e.set kind ∷ [])) s
    ended_now kind k m c =
        subst (λ u. Contains u s) (sym (claimed-end past e.worker e.set kind k))
        (elim (Contains-push_cases (ended_sets past) e.set s (subst (λ u. Contains u s) (ended-end past e.worker e.set kind k) c)) [
          | inl d ↦ f d
          | inr same ↦ subst (Contains (claimed_sets past)) same (contains_claimed past e.worker e.set m.claimed)
        ])

    step : (kind : EventKind) → MayFollow qp past e.worker e.set kind → Contains (ended_sets (past ++ event e.worker e.set kind ∷ [])) s → Contains (claimed_sets (past ++ event e.worker e.set kind ∷ [])) s
    step Claim m c =
        subst (λ u. Contains u s) (sym (claimed-claim past e.worker e.set))
        (Contains-append_left (claimed_sets past) (e.set ∷ []) s (f (subst (λ u. Contains u s) (ended-claim past e.worker e.set) c)))
    step (Done tag) m c = ended_now (Done tag) refl m.0 c
    step Drop m c = ended_now Drop refl m c

pub ended_was_claimed : (qp : Qp) (es : List Event) (s : List ℕ) → IsLegal qp es → Contains (ended_sets es) s → Contains (claimed_sets es) s
unfolding IsLegal
ended_was_claimed qp es s h c = ended_claimed qp [] es s h (λ d. d) c

-- a claimed set was claimed by some worker
pub claim_event : (es : List Event) (s : List ℕ) → Contains (claimed_sets es) s → (worker : ℕ) × Contains es (event worker s Claim)
claim_event [] s (i, p, e) = absurd (omega arith)
claim_event (x ∷ es) s c = go x.kind refl (λ d. later (claim_event es s d)) c
  where
    later : (worker : ℕ) × Contains es (event worker s Claim) → (worker : ℕ) × Contains (x ∷ es) (event worker s Claim)
    later (w, (i, p, e)) = (w, (suc i, omega arith, e))

    here : x.kind ≡ Claim → x.set ≡ s → (worker : ℕ) × Contains (x ∷ es) (event worker s Claim)
    here k e = (x.worker, (0, omega arith, λ i. record { worker = x.worker; set = e i; kind = k i }))

    go : (kind : EventKind) → x.kind ≡ kind → (Contains (claimed_sets es) s → (worker : ℕ) × Contains (x ∷ es) (event worker s Claim)) → Contains ((if is_claim kind then x.set ∷ [] else []) ++ claimed_sets es) s → (worker : ℕ) × Contains (x ∷ es) (event worker s Claim)
    go Claim k r (zero, p, e) = here k e
    go Claim k r (suc i, p, e) = r (i, omega arith, e)
    go (Done tag) k r c = r c
    go Drop k r c = r c

-- each claimed set of a legal history is a candidate
claimed_candidates : (qp : Qp) (past es : List Event) → IsLegalAfter qp past es → ((s : List ℕ) → Contains (claimed_sets past) s → IsCandidate qp s) → (s : List ℕ) → Contains (claimed_sets (past ++ es)) s → IsCandidate qp s
claimed_candidates qp past [] h f s c = f s (subst (λ p. Contains (claimed_sets p) s) (append-nil past) c)
claimed_candidates qp past (e ∷ es) h f s c = claimed_candidates qp (past ++ e ∷ []) es h.1 (step e.kind h.0) s (subst (λ p. Contains (claimed_sets p) s) (sym (append_assoc past (e ∷ []) es)) c)
  where
    step : (kind : EventKind) → MayFollow qp past e.worker e.set kind → (t : List ℕ) → Contains (claimed_sets (past ++ event e.worker e.set kind ∷ [])) t → IsCandidate qp t
    step Claim m t d = elim (Contains-push_cases (claimed_sets past) e.set t (subst (λ u. Contains u t) (claimed-claim past e.worker e.set) d)) [
      | inl k ↦ f t k
      | inr same ↦ subst (IsCandidate qp) same m.candidate
    ]
    step (Done tag) m t d = f t (subst (λ u. Contains u t) (claimed-end past e.worker e.set (Done tag) refl) d)
    step Drop m t d = f t (subst (λ u. Contains u t) (claimed-end past e.worker e.set Drop refl) d)

pub claimed_is_candidate : (qp : Qp) (es : List Event) (s : List ℕ) → IsLegal qp es → Contains (claimed_sets es) s → IsCandidate qp s
unfolding IsLegal
claimed_is_candidate qp es s h c = claimed_candidates qp [] es h (λ t d. absurd (none t d)) s c
  where
    none : (t : List ℕ) → Contains [] t → ⊥
    none t (i, p, e) = omega arith
