-- In a finished history each candidate is claimed once and delivered once.
use Rattle.std.proofs.Common.{◌≡◌, ◌≢◌, ℕ, zero, suc, ◌<◌, true, false, Bool, List, [], ◌∷◌, ◌++◌, length, get_or, append_assoc, sym, ap, subst, arith, Contains}
use Rattle.std.specs.Prelude.{if◌then◌else◌, AllPairs}
use Rattle.std.proofs.lemmas.List.{append-nil}
use Rattle.std.proofs.lemmas.List.Elements.{Contains-get_or}
use Rattle.std.proofs.lemmas.List.Quantifiers.{all_pairs_push}
use Rattle.mpc_rows.specs.declared.programs.Qp.{Qp}
use Rattle.mpc_rows.specs.Candidates.{IsCandidate}
use Rattle.mpc_claim.specs.declared.events.Event.{Event}
use Rattle.mpc_claim.specs.declared.events.EventKind.{EventKind}
use Rattle.mpc_claim.specs.declared.events.EventKind.TheVariants.{Claim, Done, Drop}
use Rattle.mpc_claim.specs.declared.events.Tag.{Tag}
use Rattle.mpc_claim.specs.Board.{event}
use Rattle.mpc_claim.specs.History.{is_claim, claimed_sets, ended_sets, MayFollow, IsLegal, IsFinished}
use Rattle.mpc_claim.specs.HistoryTheorems.{LegalTheorems, ClaimTheorems, AppendTheorems, LegalBeginnings}
use Rattle.mpc_trace.specs.Histories.{IsEachCandidate}

abbrev Differ : List (List ℕ) → Type 0
Differ sets = AllPairs (λ (s t : List ℕ). s ≢ t) sets

differ_push : (sets : List (List ℕ)) (s : List ℕ) → Differ sets → ¬ Contains sets s → Differ (sets ++ s ∷ [])
differ_push sets s h fresh = all_pairs_push (λ (t u : List ℕ). t ≢ u) sets s h (λ k d p e. fresh (subst (Contains sets) e (Contains-get_or sets k d p)))

-- ---- no set is ended twice
differ_more : (qp : Qp) (past : List Event) (worker : ℕ) (s : List ℕ) (kind : EventKind) → Differ (ended_sets past) → MayFollow qp past worker s kind → Differ (ended_sets past ++ ended_sets (event worker s kind ∷ []))
differ_more qp past worker s Claim d m = subst Differ (sym (append-nil (ended_sets past))) d
differ_more qp past worker s (Done tag) d m = differ_push (ended_sets past) s d m.0.open_still
differ_more qp past worker s Drop d m = differ_push (ended_sets past) s d m.open_still

module _ (legal : LegalTheorems) (appended : AppendTheorems) (beginnings : LegalBeginnings) (qp : Qp) where
  ends_differ : (past rest : List Event) → IsLegal qp (past ++ rest) → Differ (ended_sets past) → Differ (ended_sets (past ++ rest))
  ends_differ past [] h d = subst (λ p. Differ (ended_sets p)) (sym (append-nil past)) d
  ends_differ past (e ∷ es) h d =
      let split = append_assoc past (e ∷ []) es in
      let whole = subst (IsLegal qp) (sym split) h in
      let may = legal.last qp past e (beginnings qp (past ++ e ∷ []) es whole) in
      let more = subst Differ (sym (appended.ended past (e ∷ []))) (differ_more qp past e.worker e.set e.kind d may) in
      subst (λ p. Differ (ended_sets p)) split (ends_differ (past ++ e ∷ []) es whole more)

  pub ended_once : (history : List Event) → IsLegal qp history → Differ (ended_sets history)
  ended_once history h = ends_differ [] history h (λ i j d p q. absurd (omega arith))

-- ---- what is delivered is ended
contains_ended : (es : List Event) (w : ℕ) (s : List ℕ) (tag : Tag) (i : ℕ) → i < length es → get_or es i (event w s (Done tag)) ≡ event w s (Done tag) → Contains (ended_sets es) s
contains_ended [] w s tag i p q = absurd (omega arith)
contains_ended (x ∷ es) w s tag zero p q =
    let k : is_claim x.kind ≡ false = ap (λ (y : Event). is_claim y.kind) q in
    let named : x.set ≡ s = ap (λ (y : Event). y.set) q in
    subst (λ (b : Bool). Contains ((if b then [] else x.set ∷ []) ++ ended_sets es) s) (sym k) (0, omega arith, named)
contains_ended (x ∷ es) w s tag (suc i) p q = go (is_claim x.kind) (contains_ended es w s tag i (omega arith) q)
  where
    go : (b : Bool) → Contains (ended_sets es) s → Contains ((if b then [] else x.set ∷ []) ++ ended_sets es) s
    go true c = c
    go false (j, l, f) = (suc j, omega arith, f)

-- ---- each candidate once
module _ (legal : LegalTheorems) (claims : ClaimTheorems) (appended : AppendTheorems) (beginnings : LegalBeginnings) (qp : Qp) (history : List Event) (is : IsLegal qp history) (finished : IsFinished qp history) where
  pub each_claimed : IsEachCandidate qp (claimed_sets history)
  each_claimed = record {
    once = claims.once qp history is;
    all = finished.claimed;
    only = λ s c. claims.candidates qp history s is c;
  }

  delivered : (s : List ℕ) → IsCandidate qp s → Contains (ended_sets history) s
  delivered s candidate =
      let settled = finished.settled s candidate in
      let (i, p, e) = settled.done.delivery in
      contains_ended history settled.done.worker s settled.tag i p e

  pub each_delivered : IsEachCandidate qp (ended_sets history)
  each_delivered = record {
    once = ended_once legal appended beginnings qp history is;
    all = delivered;
    only = λ s c. claims.candidates qp history s is (claims.ended qp history s is c);
  }
