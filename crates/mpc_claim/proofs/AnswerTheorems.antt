-- The causes of a claim's answers, and what ends a history.
use Rattle.std.proofs.Common.{◌≡◌, ◌≢◌, ℕ, zero, suc, ◌<◌, List, [], ◌∷◌, ◌++◌, Bool, true, false, length, get_or, Contains, refl, sym, ap, ◌∙◌, subst, inl, inr, arith}
use Rattle.std.specs.Prelude.{if◌then◌else◌, AllPairs}
use Rattle.std.proofs.lemmas.Bool.{cases_lt}
use Rattle.std.proofs.lemmas.List.{append_assoc, append-nil}
use Rattle.std.proofs.lemmas.List.Elements.{Contains-push_cases}
use Rattle.mpc_rows.specs.declared.programs.Qp.{Qp}
use Rattle.mpc_rows.specs.Candidates.{IsCandidate}
use Rattle.mpc_claim.specs.declared.events.Event.{Event}
use Rattle.mpc_claim.specs.declared.events.EventKind.{EventKind}
use Rattle.mpc_claim.specs.declared.events.EventKind.TheVariants.{Claim, Done, Drop}
use Rattle.mpc_claim.specs.declared.events.Tag.{Tag}
use Rattle.mpc_claim.specs.declared.events.Tag.TheVariants.{Wide}
use Rattle.mpc_claim.specs.Board.{event}
use Rattle.mpc_claim.specs.History.{is_claim, claimed_sets, ended_sets, IsDone, IsSettled, IsRightTag, MayClaim, MayEnd, MayFollow, IsLegalAfter, IsLegal, IsIdle, EndsWide, WantsMemory}
use Rattle.mpc_claim.specs.HistoryTheorems.{AnswerTheorems, EndsWideIsLast, EndedIsWhole}
use Rattle.mpc_claim.proofs.Histories.{claimed-claim, claimed-end, IsDone-more, contains_ended, ended_by_done, IsLegal-front, IsLegal-last, no_set_ended_twice, contains_claimed, ended_was_claimed, claimed_is_candidate}
use Rattle.mpc_claim.proofs.HistoryTheorems.{finished_is_last}

-- ---- a set is delivered with one tag
ended_again : (x : Event) (es : List Event) (v w : ℕ) (s : List ℕ) (a b : Tag) → AllPairs (λ (t u : List ℕ). t ≢ u) (ended_sets (x ∷ es)) → x ≡ event v s (Done a) → Contains es (event w s (Done b)) → ⊥
ended_again x es v w s a b h e c =
    let (i, p, q) = c in
    let (j, l, f) = contains_ended es w s (Done b) refl i p q in
    first (subst (λ (y : Event). AllPairs (λ (t u : List ℕ). t ≢ u) (ended_sets (y ∷ es))) e h) j l f
  where
    first : AllPairs (λ (t u : List ℕ). t ≢ u) (s ∷ ended_sets es) → (j : ℕ) → j < length (ended_sets es) → get_or (ended_sets es) j s ≡ s → ⊥
    first k j l f = k 0 (suc j) s (omega arith) (omega arith) (sym f)

one_tag_in : (es : List Event) (v w : ℕ) (s : List ℕ) (a b : Tag) → AllPairs (λ (t u : List ℕ). t ≢ u) (ended_sets es) → Contains es (event v s (Done a)) → Contains es (event w s (Done b)) → a ≡ b
one_tag_in [] v w s a b h (i, p, e) d = absurd (omega arith)
one_tag_in (x ∷ es) v w s a b h (zero, p, e) (zero, q, f) = same (sym e ∙ f)
  where
    same : event v s (Done a) ≡ event w s (Done b) → a ≡ b
    same k = tags (ap (λ (y : Event). y.kind) k)
      where
        tags : Done a ≡ Done b → a ≡ b
        tags t = cc
one_tag_in (x ∷ es) v w s a b h (zero, p, e) (suc j, q, f) = absurd (ended_again x es v w s a b h e (j, omega arith, f))
one_tag_in (x ∷ es) v w s a b h (suc i, p, e) (zero, q, f) = absurd (ended_again x es w v s b a h f (i, omega arith, e))
one_tag_in (x ∷ es) v w s a b h (suc i, p, e) (suc j, q, f) = one_tag_in es v w s a b (rest (is_claim x.kind) h) (i, omega arith, e) (j, omega arith, f)
  where
    rest : (c : Bool) → AllPairs (λ (t u : List ℕ). t ≢ u) ((if c then [] else x.set ∷ []) ++ ended_sets es) → AllPairs (λ (t u : List ℕ). t ≢ u) (ended_sets es)
    rest true k = k
    rest false k = λ m n d l r. k (suc m) (suc n) d (omega arith) (omega arith)

one_tag : (qp : Qp) (past : List Event) (s : List ℕ) (a b : Tag) → IsLegal qp past → IsDone past s a → IsDone past s b → a ≡ b
one_tag qp past s a b legal d e = one_tag_in past d.worker e.worker s a b (no_set_ended_twice qp past legal) d.delivery e.delivery

not_settled : (qp : Qp) (past : List Event) (s : List ℕ) → IsLegal qp past → IsDone past s Wide → IsSettled past s → ⊥
not_settled qp past s legal wide settled = settled.not_wide (one_tag qp past s settled.tag Wide legal settled.done wide)

-- ---- all smaller candidates were settled before a set was claimed
abbrev SmallerSettled : Qp → List Event → Type 0
SmallerSettled qp past = (s : List ℕ) → Contains (claimed_sets past) s → (t : List ℕ) → IsCandidate qp t → length t < length s → IsSettled past t

settled_more : (past : List Event) (e : Event) (t : List ℕ) → IsSettled past t → IsSettled (past ++ e ∷ []) t
settled_more past e t k = record { tag = k.tag; done = IsDone-more past (e ∷ []) t k.tag k.done; not_wide = k.not_wide }

smaller_step : (qp : Qp) (past : List Event) (e : Event) → MayFollow qp past e.worker e.set e.kind → SmallerSettled qp past → SmallerSettled qp (past ++ e ∷ [])
smaller_step qp past e m f s c t k l = go e.kind m c
  where
    go : (kind : EventKind) → MayFollow qp past e.worker e.set kind → Contains (claimed_sets (past ++ event e.worker e.set kind ∷ [])) s → IsSettled (past ++ event e.worker e.set kind ∷ []) t
    go Claim n d = settled_more past (event e.worker e.set Claim) t (elim (Contains-push_cases (claimed_sets past) e.set s (subst (λ u. Contains u s) (claimed-claim past e.worker e.set) d)) [
      | inl old ↦ f s old t k l
      | inr same ↦ n.smaller_settled t k (subst (λ u. length t < length u) (sym same) l)
    ])
    go (Done tag) n d = settled_more past (event e.worker e.set (Done tag)) t (f s (subst (λ u. Contains u s) (claimed-end past e.worker e.set (Done tag) refl) d) t k l)
    go Drop n d = settled_more past (event e.worker e.set Drop) t (f s (subst (λ u. Contains u s) (claimed-end past e.worker e.set Drop refl) d) t k l)

smaller_after : (qp : Qp) (past es : List Event) → IsLegalAfter qp past es → SmallerSettled qp past → SmallerSettled qp (past ++ es)
smaller_after qp past [] h f = subst (SmallerSettled qp) (sym (append-nil past)) f
smaller_after qp past (e ∷ es) h f = subst (SmallerSettled qp) (append_assoc past (e ∷ []) es) (smaller_after qp (past ++ e ∷ []) es h.1 (smaller_step qp past e h.0 f))

none_yet : (qp : Qp) → SmallerSettled qp []
none_yet qp s (i, p, e) t k l = absurd (omega arith)

smaller_settled : (qp : Qp) (past : List Event) → IsLegal qp past → SmallerSettled qp past
unfolding IsLegal
smaller_settled qp past h = smaller_after qp [] past h (none_yet qp)

-- ---- a set that is open
open_set_unsettled : (past : List Event) (worker : ℕ) (s : List ℕ) → MayEnd past worker s → IsSettled past s → ⊥
open_set_unsettled past worker s m settled = m.open_still (ended_by_done past s settled.tag settled.done)

module _ (qp : Qp) (past : List Event) (legal : IsLegal qp past) where
  open_candidate : (worker : ℕ) (s : List ℕ) → MayEnd past worker s → IsCandidate qp s
  open_candidate worker s m = claimed_is_candidate qp past s legal (contains_claimed past worker s m.claimed)

  -- nothing is open where a level ended with a wide verdict
  wide_none_open : EndsWide qp past → (worker : ℕ) (s : List ℕ) → ¬ MayEnd past worker s
  wide_none_open e worker s = λ m. elim (cases_lt e.size (length s)) [
    | inl l ↦ not_settled qp past e.bad legal e.wide (smaller_settled qp past legal s (contains_claimed past worker s m.claimed) e.bad e.candidate (let k = e.of_size in omega (arith, k, l)))
    | inr l ↦ let d = e.delivered s (open_candidate worker s m) l in m.open_still (ended_by_done past s d.0 d.1)
  ]

  wide_no_claim : EndsWide qp past → (s : List ℕ) → ¬ MayClaim qp past s
  wide_no_claim e s = λ m. elim (cases_lt e.size (length s)) [
    | inl l ↦ not_settled qp past e.bad legal e.wide (m.smaller_settled e.bad e.candidate (let k = e.of_size in omega (arith, k, l)))
    | inr l ↦ let d = e.delivered s m.candidate l in m.fresh (ended_was_claimed qp past s legal (ended_by_done past s d.0 d.1))
  ]

  bad_claimed : (e : EndsWide qp past) → Contains (claimed_sets past) e.bad
  bad_claimed e = ended_was_claimed qp past e.bad legal (ended_by_done past e.bad Wide e.wide)

  idle_no_claim : (i : IsIdle qp past) → (s : List ℕ) → ¬ MayClaim qp past s
  idle_no_claim i s = λ m. elim (cases_lt (length i.set) (length s)) [
    | inl l ↦ open_set_unsettled past i.worker i.set i.open_still (m.smaller_settled i.set (open_candidate i.worker i.set i.open_still) l)
    | inr l ↦ m.fresh (i.all_claimed s m.candidate l)
  ]

  idle_wants : IsIdle qp past → ¬ WantsMemory qp past
  idle_wants i = λ w. go w
    where
      go : WantsMemory qp past → ⊥
      go (inl m) = idle_no_claim i m.0 m.1
      go (inr q) = open_set_unsettled past i.worker i.set i.open_still (q.settled i.set (open_candidate i.worker i.set i.open_still) (q.greatest i.set (contains_claimed past i.worker i.set i.open_still.claimed)))

  wide_wants : EndsWide qp past → ¬ WantsMemory qp past
  wide_wants e = λ w. go w
    where
      go : WantsMemory qp past → ⊥
      go (inl m) = wide_no_claim e m.0 m.1
      go (inr q) = not_settled qp past e.bad legal e.wide (q.settled e.bad e.candidate (q.greatest e.bad (bad_claimed e)))

pub answer_laws : AnswerTheorems
answer_laws = record {
  idle_alone = λ qp past legal i. (
    idle_wants qp past legal i,
    (λ f. open_set_unsettled past i.worker i.set i.open_still (f.settled i.set (open_candidate qp past legal i.worker i.set i.open_still))),
    (λ e. wide_none_open qp past legal e i.worker i.set i.open_still),
  );
  wide_alone = λ qp past legal e. (
    wide_wants qp past legal e,
    (λ f. not_settled qp past e.bad legal e.wide (f.settled e.bad e.candidate)),
  );
  finished_alone = λ qp past f s m. m.fresh (f.claimed s m.candidate);
}

-- ---- nothing follows an end
pub ends_wide_is_last : EndsWideIsLast
ends_wide_is_last qp past legal e worker s Claim = wide_no_claim qp past legal e s
ends_wide_is_last qp past legal e worker s (Done tag) = λ m. wide_none_open qp past legal e worker s m.0
ends_wide_is_last qp past legal e worker s Drop = wide_none_open qp past legal e worker s

pub ended_is_whole : EndedIsWhole
ended_is_whole qp past [] legal ended = refl
ended_is_whole qp past (x ∷ es) legal ended =
    let front : IsLegal qp (past ++ x ∷ []) = IsLegal-front qp (past ++ x ∷ []) es (subst (IsLegal qp) (sym (append_assoc past (x ∷ []) es)) legal) in
    let before = IsLegal-front qp past (x ∷ []) front in
    let may = IsLegal-last qp past x front in
    absurd (elim ended [
      | inl f ↦ finished_is_last qp past before f x.worker x.set x.kind may
      | inr e ↦ ends_wide_is_last qp past before e x.worker x.set x.kind may
    ])

-- ---- each delivery has the tag of a right verdict
right_at : (qp : Qp) (past : List Event) (e : Event) (worker : ℕ) (s : List ℕ) (tag : Tag) → MayFollow qp past e.worker e.set e.kind → e ≡ event worker s (Done tag) → IsRightTag qp s tag
right_at qp past e worker s tag m same = (subst (λ (d : Event). MayFollow qp past d.worker d.set d.kind) same m).1

right_after : (qp : Qp) (past es : List Event) → IsLegalAfter qp past es → (worker : ℕ) (s : List ℕ) (tag : Tag) → Contains es (event worker s (Done tag)) → IsRightTag qp s tag
right_after qp past [] h worker s tag (i, p, e) = absurd (omega arith)
right_after qp past (x ∷ es) h worker s tag (zero, p, e) = right_at qp past x worker s tag h.0 e
right_after qp past (x ∷ es) h worker s tag (suc i, p, e) = right_after qp (past ++ x ∷ []) es h.1 worker s tag (i, omega arith, e)

pub right_tags : (qp : Qp) (past : List Event) (worker : ℕ) (s : List ℕ) (tag : Tag) → IsLegal qp past → Contains past (event worker s (Done tag)) → IsRightTag qp s tag
unfolding IsLegal
right_tags qp past worker s tag legal c = right_after qp [] past legal worker s tag c
