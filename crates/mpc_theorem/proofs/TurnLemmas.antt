-- One worker alone delivers each set right after its claim.
use Rattle.std.proofs.Common.{◌≡◌, ℕ, inl, inr, List, [], ◌∷◌, ◌++◌, append_assoc, refl, sym, ap, subst, ◌∙◌, arith, Contains}
use Rattle.std.proofs.lemmas.List.Elements.{Contains-append_right, Contains-append_cases, Contains-push, Contains-push_cases}
use Rattle.mpc_rows.specs.declared.programs.Qp.{Qp}
use Rattle.mpc_claim.specs.declared.events.Event.{Event}
use Rattle.mpc_claim.specs.declared.events.EventKind.{EventKind}
use Rattle.mpc_claim.specs.declared.events.EventKind.TheVariants.{Claim, Done, Drop}
use Rattle.mpc_claim.specs.declared.events.Tag.{Tag}
use Rattle.mpc_claim.specs.Board.{event}
use Rattle.mpc_workers.specs.Alone.{IsTurn, AreTurns}
use Rattle.mpc_theorem.specs.Traces.{IsDelivered, Holds, MayFollow, IsHistory}
use Rattle.mpc_theorem.proofs.TraceLemmas.{IsFree, still_held, delivered_claimed, alone}

not_free : (past more : List Event) (s : List ℕ) (tag : Tag) → IsFree past → Contains more (event 1 s (Done tag)) → (w : ℕ) (t : List ℕ) → (Contains more (event w t Claim) → t ≡ s) → ¬ Holds (past ++ more) w t
not_free past more s tag free done w t only holds = elim (Contains-append_cases past more (event w t Claim) holds.0) [
  | inl c ↦ free w t (still_held past more w t c holds.1)
  | inr c ↦ holds.1 (1, (tag, Contains-append_right past more (event 1 t (Done tag)) (subst (λ u. Contains more (event 1 u (Done tag))) (sym (only c)) done)))
]

module _ (qp : Qp) (workers : ℕ) (history : List Event) (h : IsHistory qp workers history) (one : workers ≡ 1) where
  -- the history doesn't end with a claim
  open_last : (past : List Event) (w : ℕ) (s : List ℕ) (kind : EventKind) → history ≡ past ++ event w s kind ∷ [] → IsFree past → MayFollow qp past w s kind → ⊥
  open_last past w s Claim cut free may =
      let d = subst (λ p. IsDelivered p s) cut (h.finished s may.candidate) in
      elim (Contains-push_cases past (event w s Claim) (event d.0 s (Done d.1.0)) d.1.1) [
        | inl c ↦ may.fresh (delivered_claimed qp workers history h past (event w s Claim ∷ []) s cut (d.0, (d.1.0, c)))
        | inr e ↦ (let k : Claim ≡ Done d.1.0 = ap (λ (y : Event). y.kind) e in cc)
      ]
  open_last past w s (Done tag) cut free may = free w s may.0
  open_last past w s Drop cut free may = may

  -- a claim by whoever holds nothing, and what follows it
  turn : (past rest : List Event) (w : ℕ) (s : List ℕ) (kind : EventKind) (v : ℕ) (t : List ℕ) (other : EventKind) → history ≡ past ++ event w s kind ∷ event v t other ∷ rest → w ≡ 1 → v ≡ 1 → IsFree past
      → MayFollow qp past w s kind → MayFollow qp (past ++ event w s kind ∷ []) v t other
      → IsTurn (event w s kind) (event v t other) × IsFree (past ++ event w s kind ∷ event v t other ∷ [])
  turn past rest w s Claim v t Claim cut a b free may next =
      absurd (next.free s (subst (λ n. Holds (past ++ event w s Claim ∷ []) n s) (a ∙ sym b) (Contains-push past (event w s Claim), held)))
    where
      held : ¬ IsDelivered (past ++ event w s Claim ∷ []) s
      held d = elim (Contains-push_cases past (event w s Claim) (event d.0 s (Done d.1.0)) d.1.1) [
        | inl c ↦ may.fresh (delivered_claimed qp workers history h past (event w s Claim ∷ event v t Claim ∷ rest) s cut (d.0, (d.1.0, c)))
        | inr e ↦ (let k : Claim ≡ Done d.1.0 = ap (λ (y : Event). y.kind) e in cc)
      ]
  turn past rest w s Claim v t (Done tag) cut a b free may next =
      (record { set = s; tag = tag; claim_is = ap (λ n. event n s Claim) a; done_is = ap (λ n. event n t (Done tag)) b ∙ ap (λ u. event 1 u (Done tag)) same }, nobody)
    where
      claimed_now : (u : List ℕ) (n : ℕ) → event w s Claim ≡ event n u Claim → u ≡ s
      claimed_now u n e = sym (ap (λ (y : Event). y.set) e)

      same : t ≡ s
      same = elim (Contains-push_cases past (event w s Claim) (event v t Claim) next.0.0)
          [ inl c ↦ absurd (free v t (still_held past (event w s Claim ∷ []) v t c next.0.1)) | inr e ↦ claimed_now t v e ]

      only : (n : ℕ) (u : List ℕ) → Contains (event w s Claim ∷ event v t (Done tag) ∷ []) (event n u Claim) → u ≡ s
      only n u c = elim (Contains-push_cases (event w s Claim ∷ []) (event v t (Done tag)) (event n u Claim) c) [
        | inl first ↦ (elim (Contains-push_cases [] (event w s Claim) (event n u Claim) first) [ inl none ↦ absurd (let l = none.1 in omega (arith, l)) | inr e ↦ claimed_now u n e ])
        | inr e ↦ absurd (let k : Done tag ≡ Claim = ap (λ (y : Event). y.kind) e in cc)
      ]

      done : Contains (event w s Claim ∷ event v t (Done tag) ∷ []) (event 1 s (Done tag))
      done = subst (Contains (event w s Claim ∷ event v t (Done tag) ∷ [])) (ap (λ n. event n t (Done tag)) b ∙ ap (λ u. event 1 u (Done tag)) same) (Contains-push (event w s Claim ∷ []) (event v t (Done tag)))

      nobody : IsFree (past ++ event w s Claim ∷ event v t (Done tag) ∷ [])
      nobody n u = not_free past (event w s Claim ∷ event v t (Done tag) ∷ []) s tag free done n u (only n u)
  turn past rest w s Claim v t Drop cut a b free may next = absurd next
  turn past rest w s (Done tag) v t other cut a b free may next = absurd (free w s may.0)
  turn past rest w s Drop v t other cut a b free may next = absurd may

  turns_from : (past more : List Event) → history ≡ past ++ more → IsFree past → AreTurns more
  turns_from past [] cut free = tt
  turns_from past (c ∷ []) cut free = open_last past c.worker c.set c.kind cut free (h.legal past [] c cut)
  turns_from past (c ∷ d ∷ rest) cut free =
      let second : history ≡ (past ++ c ∷ []) ++ d ∷ rest = cut ∙ sym (append_assoc past (c ∷ []) (d ∷ rest)) in
      let both = turn past rest c.worker c.set c.kind d.worker d.set d.kind cut (alone qp workers history h one past (d ∷ rest) c cut) (alone qp workers history h one (past ++ c ∷ []) rest d second) free (h.legal past (d ∷ rest) c cut) (h.legal (past ++ c ∷ []) rest d second) in
      (both.0, turns_from (past ++ c ∷ d ∷ []) rest (cut ∙ sym (append_assoc past (c ∷ d ∷ []) rest)) both.1)

  nobody_first : IsFree []
  nobody_first w s (c, open_still) = let l = c.1 in omega (arith, l)

  pub turns : AreTurns history
  turns = turns_from [] history refl nobody_first
