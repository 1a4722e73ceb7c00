-- A finished history of a registry is one of workers who claim and deliver.
use Rattle.std.proofs.Common.{◌≡◌, ◌≢◌, ℕ, zero, suc, ◌<◌, ◌≤◌, Bool, true, false, inl, inr, ◌⊎◌, List, [], ◌∷◌, ◌++◌, append_assoc, refl, sym, ap, subst, ◌∙◌, arith, Contains, All}
use Rattle.std.specs.Prelude.{if◌then◌else◌, ◌||◌}
use Rattle.std.proofs.lemmas.List.Elements.{All-contains, Contains-append_left, Contains-append_right, Contains-append_cases, Contains-push}
use Rattle.mpc_rows.specs.declared.programs.Qp.{Qp}
use Rattle.mpc_rows.specs.declared.verdicts.Verdict.{Verdict}
use Rattle.mpc_rows.specs.declared.verdicts.Verdict.TheVariants.{Dependent, Unreachable, Hollow, Region, Wide}
use Rattle.mpc_rows.specs.Candidates.{IsCandidate}
use Rattle.mpc_rows.specs.Verdicts.{IsRight}
use Rattle.mpc_claim.specs.declared.events.Event.{Event}
use Rattle.mpc_claim.specs.declared.events.EventKind.{EventKind}
use Rattle.mpc_claim.specs.declared.events.EventKind.TheVariants.{Claim, Done, Drop}
use Rattle.mpc_claim.specs.declared.events.Tag.{Tag}
use Rattle.mpc_claim.specs.declared.events.Tag.TheVariants.{Wide as WideTag}
use Rattle.mpc_claim.specs.Board.{event, tag_of}
use Rattle.mpc_claim.specs.History.{is_claim, ended_sets, has_drop, MayEnd, MayClaim as MayClaimThere, MayFollow as MayFollowThere, IsLegal, IsFinished}
use Rattle.mpc_claim.specs.HistoryTheorems.{LegalTheorems, ClaimTheorems, AppendTheorems, LegalBeginnings}
use Rattle.mpc_theorem.specs.Traces.{IsTagOf, IsClaimed, IsDelivered, Holds, MayClaim, MayFollow, IsHistory}

-- ---- lists
pub split_at : (es : List Event) (x : Event) → Contains es x → (past : List Event) × ((more : List Event) × (es ≡ past ++ x ∷ more))
split_at [] x (i, l, q) = absurd (omega arith)
split_at (e ∷ es) x (zero, l, q) = ([], (es, ap (λ y. y ∷ es) q))
split_at (e ∷ es) x (suc i, l, q) = let cut = split_at es x (i, omega arith, q) in (e ∷ cut.0, (cut.1.0, ap (λ z. e ∷ z) cut.1.1))

some_true : (a b : Bool) → (a || (true || b)) ≡ false → ⊥
some_true true b e = cc
some_true false b e = cc

first_false : (a b : Bool) → (a || b) ≡ false → a ≡ false
first_false true b e = cc
first_false false b e = refl

-- ---- what is delivered is ended, and the other way round where none is given up
pub delivered_ended : (es : List Event) (w : ℕ) (s : List ℕ) (tag : Tag) → Contains es (event w s (Done tag)) → Contains (ended_sets es) s
delivered_ended [] w s tag (i, l, q) = absurd (omega arith)
delivered_ended (x ∷ es) w s tag (zero, l, q) =
    let k : is_claim x.kind ≡ false = ap (λ (y : Event). is_claim y.kind) q in
    let named : x.set ≡ s = ap (λ (y : Event). y.set) q in
    subst (λ (b : Bool). Contains ((if b then [] else x.set ∷ []) ++ ended_sets es) s) (sym k) (0, omega arith, named)
delivered_ended (x ∷ es) w s tag (suc i, l, q) = Contains-append_right (if is_claim x.kind then [] else x.set ∷ []) (ended_sets es) s (delivered_ended es w s tag (i, omega arith, q))

later : (e : Event) (es : List Event) (s : List ℕ) → IsDelivered es s → IsDelivered (e ∷ es) s
later e es s d = (d.0, (d.1.0, Contains-append_right (e ∷ []) es (event d.0 s (Done d.1.0)) d.1.1))

delivered_at : (es : List Event) (w : ℕ) (t s : List ℕ) (kind : EventKind) → (has_drop es ≡ false → Contains (ended_sets es) s → IsDelivered es s)
    → has_drop (event w t kind ∷ es) ≡ false → Contains (ended_sets (event w t kind ∷ es)) s → IsDelivered (event w t kind ∷ es) s
delivered_at es w t s Claim rest n c = later (event w t Claim) es s (rest n c)
delivered_at es w t s (Done tag) rest n (zero, l, q) = (w, (tag, (0, omega arith, ap (λ z. event w z (Done tag)) q)))
delivered_at es w t s (Done tag) rest n (suc i, l, q) = later (event w t (Done tag)) es s (rest n (i, omega arith, q))
delivered_at es w t s Drop rest n c = absurd cc

pub ended_delivered : (es : List Event) (s : List ℕ) → has_drop es ≡ false → Contains (ended_sets es) s → IsDelivered es s
ended_delivered [] s n (i, l, q) = absurd (omega arith)
ended_delivered (e ∷ es) s n c = delivered_at es e.worker e.set s e.kind (ended_delivered es s) n c

-- ---- the tag of a right verdict
tag_found : (qp : Qp) (s : List ℕ) (v : Verdict) (tag : Tag) → IsRight qp s v → tag_of v ≡ tag → tag ≢ WideTag → IsTagOf qp s tag
tag_found qp s Dependent tag r e other = subst (IsTagOf qp s) e r.0
tag_found qp s Unreachable tag r e other = subst (IsTagOf qp s) e r.0
tag_found qp s Hollow tag r e other = subst (IsTagOf qp s) e r.0
tag_found qp s (Region law) tag r e other = subst (IsTagOf qp s) e (r.0.0, record { law = law; of_set = r.0.1; is_law = r.0.2; holds = r.0.3 })
tag_found qp s (Wide place) tag r e other = absurd (other (sym e))

-- ---- the history of a registry
module _ (legal : LegalTheorems) (claims : ClaimTheorems) (appended : AppendTheorems) (beginnings : LegalBeginnings) (qp : Qp) (history : List Event) (is : IsLegal qp history) (finished : IsFinished qp history) where
  followed : (past more : List Event) (e : Event) → history ≡ past ++ e ∷ more → MayFollowThere qp past e.worker e.set e.kind
  followed past more e cut = legal.last qp past e (beginnings qp (past ++ e ∷ []) more (subst (IsLegal qp) (cut ∙ sym (append_assoc past (e ∷ []) more)) is))

  no_drop : (past more : List Event) → history ≡ past ++ more → (has_drop past || has_drop more) ≡ false
  no_drop past more cut = sym (appended.dropped past more) ∙ sym (ap has_drop cut) ∙ finished.no_drop

  -- no set is delivered again
  twice : (past more : List Event) (e : Event) (tag : Tag) (w : ℕ) → history ≡ past ++ e ∷ more → e.kind ≡ Done tag → (other : Tag) → Contains more (event w e.set (Done other)) → ⊥
  twice past more e tag w cut k other c =
      let x = event w e.set (Done other) in
      let rest = split_at more x c in
      let whole : history ≡ (past ++ e ∷ rest.0) ++ x ∷ rest.1.0 = cut ∙ ap (λ z. past ++ e ∷ z) rest.1.1 ∙ sym (append_assoc past (e ∷ rest.0) (x ∷ rest.1.0)) in
      let here : Contains (past ++ e ∷ rest.0) (event e.worker e.set (Done tag)) = Contains-append_right past (e ∷ rest.0) (event e.worker e.set (Done tag)) (0, omega arith, ap (event e.worker e.set) k) in
      (followed (past ++ e ∷ rest.0) rest.1.0 x whole).0.open_still (delivered_ended (past ++ e ∷ rest.0) e.worker e.set tag here)

  candidate_of : (past more : List Event) (w : ℕ) (s : List ℕ) → history ≡ past ++ more → Contains past (event w s Claim) → IsCandidate qp s
  candidate_of past more w s cut c = claims.candidates qp history s is (claims.claims history w s (subst (λ h. Contains h (event w s Claim)) (sym cut) (Contains-append_left past more (event w s Claim) c)))

  -- where a set is settled, its delivery is the one
  settled_tag : (past more : List Event) (w : ℕ) (s : List ℕ) (tag : Tag) → history ≡ past ++ event w s (Done tag) ∷ more → MayEnd past w s → tag ≢ WideTag
  settled_tag past more w s tag cut may wide =
      let settled = finished.settled s (candidate_of past (event w s (Done tag) ∷ more) w s cut may.claimed) in
      by settled.done.worker settled.tag settled.not_wide (Contains-append_cases past (event w s (Done tag) ∷ more) (event settled.done.worker s (Done settled.tag)) (subst (λ h. Contains h (event settled.done.worker s (Done settled.tag))) cut settled.done.delivery))
    where
      by : (v : ℕ) (other : Tag) → other ≢ WideTag → Contains past (event v s (Done other)) ⊎ Contains (event w s (Done tag) ∷ more) (event v s (Done other)) → ⊥
      by v other good (inl c) = may.open_still (delivered_ended past v s other c)
      by v other good (inr (zero, l, q)) = let same : Done tag ≡ Done other = ap (λ (y : Event). y.kind) q in good (cc)
      by v other good (inr (suc i, l, q)) = twice past more (event w s (Done tag)) tag v cut refl other (i, omega arith, q)

  module _ (one_each : (past more : List Event) → history ≡ past ++ more → (worker : ℕ) (s t : List ℕ) → MayEnd past worker s → MayEnd past worker t → s ≡ t) where
    may_claim : (past more : List Event) (w : ℕ) (s : List ℕ) → history ≡ past ++ event w s Claim ∷ more → MayClaimThere qp past s → MayClaim qp past w s
    may_claim past more w s cut may = record {
      free = held;
      candidate = may.candidate;
      fresh = fresh;
      least = λ t is_candidate before. claims.by_worker past t (may.least t is_candidate before);
      smaller = λ t is_candidate shorter. let settled = may.smaller_settled t is_candidate shorter in (settled.done.worker, (settled.tag, settled.done.delivery));
    }
      where
        fresh : ¬ IsClaimed past s
        fresh c = may.fresh (claims.claims past c.0 s c.1)

        now : List Event
        now = past ++ event w s Claim ∷ []

        ended_before : (t : List ℕ) → Contains (ended_sets (past ++ event w s Claim ∷ [])) t → IsDelivered past t
        ended_before t c = elim (Contains-append_cases (ended_sets past) [] t (subst (λ l. Contains l t) (appended.ended past (event w s Claim ∷ [])) c))
            [ inl before ↦ ended_delivered past t may.no_drop before | inr none ↦ absurd (omega (arith, none.1)) ]

        held : (t : List ℕ) → ¬ Holds past w t
        held t holds = fresh (w, subst (λ u. Contains past (event w u Claim)) same holds.0)
          where
            mine : MayEnd (past ++ event w s Claim ∷ []) w s
            mine = record {
              claimed = Contains-push past (event w s Claim);
              open_still = λ c. may.fresh (claims.ended qp past s (beginnings qp past (event w s Claim ∷ more) (subst (IsLegal qp) cut is)) (let d = ended_before s c in delivered_ended past d.0 s d.1.0 d.1.1));
            }

            theirs : MayEnd (past ++ event w s Claim ∷ []) w t
            theirs = record { claimed = Contains-append_left past (event w s Claim ∷ []) (event w t Claim) holds.0; open_still = λ c. holds.1 (ended_before t c) }

            same : t ≡ s
            same = one_each (past ++ event w s Claim ∷ []) more (cut ∙ sym (append_assoc past (event w s Claim ∷ []) more)) w t s theirs mine

    follows : (past more : List Event) (w : ℕ) (s : List ℕ) (kind : EventKind) → history ≡ past ++ event w s kind ∷ more → MayFollowThere qp past w s kind → MayFollow qp past w s kind
    follows past more w s Claim cut may = may_claim past more w s cut may
    follows past more w s (Done tag) cut may =
        ((may.0.claimed, λ d. may.0.open_still (delivered_ended past d.0 s d.1.0 d.1.1)), tag_found qp s may.1.verdict tag may.1.right may.1.tagged (settled_tag past more w s tag cut may.0))
    follows past more w s Drop cut may = absurd (some_true (has_drop past) (has_drop more) (no_drop past (event w s Drop ∷ more) cut))

    delivered : (s : List ℕ) → IsCandidate qp s → IsDelivered history s
    delivered s is_candidate = let settled = finished.settled s is_candidate in (settled.done.worker, (settled.tag, settled.done.delivery))

    pub is_history : (workers : ℕ) → All (λ (e : Event). (0 < e.worker) × (e.worker ≤ workers)) history → IsHistory qp workers history
    is_history workers by = record {
      by_workers = λ past more e cut. All-contains (λ (x : Event). (0 < x.worker) × (x.worker ≤ workers)) history e by (subst (λ h. Contains h e) (sym cut) (Contains-append_right past (e ∷ more) e (0, omega arith, refl)));
      legal = λ past more e cut. follows past more e.worker e.set e.kind cut (followed past more e cut);
      finished = delivered;
    }
