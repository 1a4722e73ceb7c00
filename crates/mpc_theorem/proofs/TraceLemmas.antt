-- A history of workers who claim and deliver is a finished one of a registry: each holds one set at a time, and who is alone takes turns.
use Rattle.std.proofs.Common.{◌≡◌, ℕ, ◌<◌, ◌≤◌, false, inl, inr, ◌⊎◌, List, [], ◌∷◌, ◌++◌, get_or, append_assoc, refl, sym, ap, subst, ◌∙◌, arith, Contains, All}
use Rattle.std.specs.Prelude.{◌||◌}
use Rattle.std.proofs.lemmas.List.{append-nil}
use Rattle.std.proofs.lemmas.List.Elements.{Contains-get_or, Contains-append_left, Contains-push_cases}
use Rattle.mpc_rows.specs.declared.programs.Qp.{Qp}
use Rattle.mpc_rows.specs.Candidates.{IsCandidate}
use Rattle.mpc_claim.specs.declared.events.Event.{Event}
use Rattle.mpc_claim.specs.declared.events.EventKind.{EventKind}
use Rattle.mpc_claim.specs.declared.events.EventKind.TheVariants.{Claim, Done, Drop}
use Rattle.mpc_claim.specs.declared.events.Tag.{Tag}
use Rattle.mpc_claim.specs.Board.{event}
use Rattle.mpc_claim.specs.History.{has_drop, IsSettled, IsRightTag, MayFollow as MayFollowThere, IsLegal, IsFinished}
use Rattle.mpc_claim.specs.HistoryTheorems.{LegalTheorems, ClaimTheorems, AppendTheorems}
use Rattle.mpc_theorem.specs.Traces.{IsTagOf, IsClaimed, IsDelivered, Holds, MayFollow, IsHistory}
use Rattle.mpc_theorem.proofs.HistoryLemmas.{split_at, ended_delivered}

abbrev pub IsFree : List Event → Type 0
IsFree past = (w : ℕ) (s : List ℕ) → ¬ Holds past w s

abbrev pub HoldOne : List Event → Type 0
HoldOne past = (w : ℕ) (s t : List ℕ) → Holds past w s → Holds past w t → s ≡ t

pub delivered_more : (past more : List Event) (s : List ℕ) → IsDelivered past s → IsDelivered (past ++ more) s
delivered_more past more s d = (d.0, (d.1.0, Contains-append_left past more (event d.0 s (Done d.1.0)) d.1.1))

pub still_held : (past more : List Event) (w : ℕ) (s : List ℕ) → Contains past (event w s Claim) → (¬ IsDelivered (past ++ more) s) → Holds past w s
still_held past more w s c open_still = (c, λ d. open_still (delivered_more past more s d))

module _ (qp : Qp) (workers : ℕ) (history : List Event) (h : IsHistory qp workers history) where
  -- ---- what stands behind an event of a beginning
  behind : (past more : List Event) (x : Event) → history ≡ past ++ more → Contains past x → (front : List Event) × ((rest : List Event) × (past ≡ front ++ x ∷ rest) × MayFollow qp front x.worker x.set x.kind)
  behind past more x cut c =
      let s = split_at past x c in
      let whole : history ≡ s.0 ++ x ∷ (s.1.0 ++ more) = cut ∙ ap (λ p. p ++ more) s.1.1 ∙ append_assoc s.0 (x ∷ s.1.0) more in
      (s.0, (s.1.0, s.1.1, h.legal s.0 (s.1.0 ++ more) x whole))

  candidate_of : (past more : List Event) (w : ℕ) (s : List ℕ) → history ≡ past ++ more → Contains past (event w s Claim) → IsCandidate qp s
  candidate_of past more w s cut c = (behind past more (event w s Claim) cut c).1.2.candidate

  pub delivered_claimed : (past more : List Event) (s : List ℕ) → history ≡ past ++ more → IsDelivered past s → IsClaimed past s
  delivered_claimed past more s cut d =
      let b = behind past more (event d.0 s (Done d.1.0)) cut d.1.1 in
      (d.0, subst (λ p. Contains p (event d.0 s Claim)) (sym b.1.1) (Contains-append_left b.0 (event d.0 s (Done d.1.0) ∷ b.1.0) (event d.0 s Claim) b.1.2.0.0))

  settled : (past more : List Event) (s : List ℕ) → history ≡ past ++ more → IsDelivered past s → IsSettled past s
  settled past more s cut d = record {
    tag = d.1.0;
    done = record { worker = d.0; delivery = d.1.1 };
    not_wide = λ e. subst (IsTagOf qp s) e (behind past more (event d.0 s (Done d.1.0)) cut d.1.1).1.2.1;
  }

  -- ---- how many sets a worker holds
  held_before : (past : List Event) (w : ℕ) (s : List ℕ) (kind : EventKind) (v : ℕ) (t : List ℕ) → Holds (past ++ event w s kind ∷ []) v t → Holds past v t ⊎ (event w s kind ≡ event v t Claim)
  held_before past w s kind v t holds = elim (Contains-push_cases past (event w s kind) (event v t Claim) holds.0)
      [ inl c ↦ inl (still_held past (event w s kind ∷ []) v t c holds.1) | inr e ↦ inr e ]

  one_more : (past : List Event) (w : ℕ) (s : List ℕ) (kind : EventKind) → MayFollow qp past w s kind → HoldOne past → HoldOne (past ++ event w s kind ∷ [])
  one_more past w s Claim may one v t u a b = by (held_before past w s Claim v t a) (held_before past w s Claim v u b)
    where
      by : Holds past v t ⊎ (event w s Claim ≡ event v t Claim) → Holds past v u ⊎ (event w s Claim ≡ event v u Claim) → t ≡ u
      by (inl c) (inl d) = one v t u c d
      by (inl c) (inr d) = absurd (may.free t (subst (λ n. Holds past n t) (sym (ap (λ (y : Event). y.worker) d)) c))
      by (inr c) (inl d) = absurd (may.free u (subst (λ n. Holds past n u) (sym (ap (λ (y : Event). y.worker) c)) d))
      by (inr c) (inr d) = sym (ap (λ (y : Event). y.set) c) ∙ ap (λ (y : Event). y.set) d
  one_more past w s (Done tag) may one v t u a b = by (held_before past w s (Done tag) v t a) (held_before past w s (Done tag) v u b)
    where
      by : Holds past v t ⊎ (event w s (Done tag) ≡ event v t Claim) → Holds past v u ⊎ (event w s (Done tag) ≡ event v u Claim) → t ≡ u
      by (inl c) (inl d) = one v t u c d
      by (inl c) (inr d) = absurd (let k : Done tag ≡ Claim = ap (λ (y : Event). y.kind) d in cc)
      by (inr c) d = absurd (let k : Done tag ≡ Claim = ap (λ (y : Event). y.kind) c in cc)
  one_more past w s Drop may one v t u a b = absurd may

  one_from : (past rest more : List Event) → history ≡ (past ++ rest) ++ more → HoldOne past → HoldOne (past ++ rest)
  one_from past [] more cut one = subst HoldOne (sym (append-nil past)) one
  one_from past (e ∷ es) more cut one =
      let here : history ≡ past ++ e ∷ (es ++ more) = cut ∙ append_assoc past (e ∷ es) more in
      let next : history ≡ ((past ++ e ∷ []) ++ es) ++ more = cut ∙ ap (λ p. p ++ more) (sym (append_assoc past (e ∷ []) es)) in
      subst HoldOne (append_assoc past (e ∷ []) es) (one_from (past ++ e ∷ []) es more next (one_more past e.worker e.set e.kind (h.legal past (es ++ more) e here) one))

  none_first : HoldOne []
  none_first w s t (c, open_still) b = absurd (let l = c.1 in omega (arith, l))

  pub hold_one : (past more : List Event) → history ≡ past ++ more → HoldOne past
  hold_one past more cut = one_from [] past more cut none_first

  -- ---- one worker alone
  pub alone : workers ≡ 1 → (past more : List Event) (e : Event) → history ≡ past ++ e ∷ more → e.worker ≡ 1
  alone one past more e cut = let b = h.by_workers past more e cut in let low = b.0 in let high = b.1 in omega (arith, one, low, high)

  -- ---- event by event
  module _ (legal : LegalTheorems) (claims : ClaimTheorems) (appended : AppendTheorems) (tags : (s : List ℕ) (tag : Tag) → IsCandidate qp s → IsTagOf qp s tag → IsRightTag qp s tag) where
    allowed : (past more : List Event) (w : ℕ) (s : List ℕ) (kind : EventKind) → history ≡ past ++ event w s kind ∷ more → has_drop past ≡ false → MayFollow qp past w s kind → MayFollowThere qp past w s kind
    allowed past more w s Claim cut none may = record {
      no_drop = none;
      candidate = may.candidate;
      fresh = λ c. may.fresh (claims.by_worker past s c);
      least = λ t is before. let c = may.least t is before in claims.claims past c.0 t c.1;
      smaller_settled = λ t is shorter. settled past (event w s Claim ∷ more) t cut (may.smaller t is shorter);
    }
    allowed past more w s (Done tag) cut none may =
        (record { claimed = may.0.0; open_still = λ c. may.0.1 (ended_delivered past s none c) }, tags s tag (candidate_of past (event w s (Done tag) ∷ more) w s cut may.0.0) may.1)
    allowed past more w s Drop cut none may = absurd may

    kept : (past : List Event) (w : ℕ) (s : List ℕ) (kind : EventKind) → has_drop past ≡ false → MayFollow qp past w s kind → has_drop (past ++ event w s kind ∷ []) ≡ false
    kept past w s Claim none may = appended.dropped past (event w s Claim ∷ []) ∙ ap (λ b. b || false) none
    kept past w s (Done tag) none may = appended.dropped past (event w s (Done tag) ∷ []) ∙ ap (λ b. b || false) none
    kept past w s Drop none may = absurd may

    goes_on : (past more : List Event) → history ≡ past ++ more → IsLegal qp past → has_drop past ≡ false → IsLegal qp history × (has_drop history ≡ false)
    goes_on past [] cut l none = let same : past ≡ history = sym (cut ∙ append-nil past) in (subst (IsLegal qp) same l, subst (λ p. has_drop p ≡ false) same none)
    goes_on past (e ∷ es) cut l none =
        let may = h.legal past es e cut in
        goes_on (past ++ e ∷ []) es (cut ∙ sym (append_assoc past (e ∷ []) es)) (legal.more qp past e l (allowed past es e.worker e.set e.kind cut none may)) (kept past e.worker e.set e.kind none may)

    whole : IsLegal qp history × (has_drop history ≡ false)
    whole = goes_on [] history refl (legal.nothing qp) refl

    pub is_legal : IsLegal qp history
    is_legal = whole.0

    pub is_finished : IsFinished qp history
    is_finished = record {
      no_drop = whole.1;
      claimed = λ s is. let c = delivered_claimed history [] s (sym (append-nil history)) (h.finished s is) in claims.claims history c.0 s c.1;
      settled = λ s is. settled history [] s (sym (append-nil history)) (h.finished s is);
    }

  pub by_workers : All (λ (e : Event). (0 < e.worker) × (e.worker ≤ workers)) history
  by_workers k d below = let s = split_at history (get_or history k d) (Contains-get_or history k d below) in h.by_workers s.0 s.1.0 (get_or history k d) s.1.1
