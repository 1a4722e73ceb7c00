-- What the laws of histories rest on.
use Rattle.std.proofs.Common.{◌≡◌, ◌≢◌, ℕ, zero, suc, ◌+◌, ◌-◌, ◌⊎◌, List, [], ◌∷◌, ◌++◌, Bool, true, false, length, take, Contains, Some, slice_get, refl, sym, ap, ◌∙◌, subst, inl, inr, arith}
use Rattle.std.specs.Prelude.{if◌then◌else◌, AllPairs}
use Rattle.std.proofs.lemmas.Bool.{cases_lt}
use Rattle.std.proofs.lemmas.List.Elements.{Contains-append_left, Contains-append_right, Contains-append_cases, Contains-push, Contains-push_cases}
use Rattle.std.proofs.lemmas.Option.{slice_get-get_or, slice_get_within, get_or_from_slice_get}
use Rattle.mpc_rows.specs.declared.programs.Qp.{Qp}
use Rattle.mpc_claim.specs.declared.events.Event.{Event}
use Rattle.mpc_claim.specs.declared.events.EventKind.{EventKind}
use Rattle.mpc_claim.specs.declared.events.EventKind.TheVariants.{Claim, Done, Drop}
use Rattle.mpc_claim.specs.declared.tickets.Ticket.{Ticket}
use Rattle.mpc_claim.specs.Board.{event}
use Rattle.mpc_claim.specs.History.{is_claim, claimed_sets, ended_sets, MayClaim, MayEnd, IsLegal, IsOpen, IsFinished}
use Rattle.mpc_claim.specs.HistoryTheorems.{claim_count, next_ticket, OpenClaims, FinishedIsLast, CountedTickets, StandingTickets}
use Rattle.mpc_claim.proofs.Histories.{claimed_sets-append, ended_sets-append, claimed-claim, claimed-end, ended-claim, ended-end, ended_by_done, no_set_claimed_twice, contains_claimed, ended_was_claimed, claimed_is_candidate}
use Rattle.mpc_claim.proofs.Opens.{slice_get-front, open_after_claim, open_after_end}
use Rattle.mpc_claim.proofs.Jobs.{opens}

-- ---- the open claims after a claim
in_front_or_last : {X : Type 0} (xs : List X) (y : X) (i : ℕ) (x : X) → slice_get (xs ++ y ∷ []) i ≡ Some x → (slice_get xs i ≡ Some x) ⊎ ((i ≡ length xs) × (y ≡ x))
in_front_or_last [] y zero x e = inr (refl, cc)
in_front_or_last [] y (suc i) x e = absurd (cc)
in_front_or_last (z ∷ xs) y zero x e = inl e
in_front_or_last (z ∷ xs) y (suc i) x e = elim (in_front_or_last xs y i x e) [ inl f ↦ inl f | inr l ↦ inr (ap suc l.0, l.1) ]

ticket_is : (ticket : Ticket) (number worker : ℕ) (s : List ℕ) → ticket.number ≡ number → ticket.worker ≡ worker → ticket.set ≡ s → ticket ≡ record { number = number; worker = worker; set = s }
ticket_is ticket number worker s p q r = λ i. record { number = p i; worker = q i; set = r i }

listed_claim : (past : List Event) (i : ℕ) (s : List ℕ) → slice_get (claimed_sets past) i ≡ Some s → Contains (claimed_sets past) s
listed_claim past i s e = (i, slice_get_within (claimed_sets past) i s e, get_or_from_slice_get (claimed_sets past) i s s e)

module _ (qp : Qp) (past : List Event) (worker : ℕ) (s : List ℕ) (ticket : Ticket) where
  old_or_own : MayClaim qp past s → IsOpen (past ++ event worker s Claim ∷ []) ticket → IsOpen past ticket ⊎ (ticket ≡ next_ticket past worker s)
  old_or_own m o =
      go (in_front_or_last (claimed_sets past) s (ticket.number - 1) ticket.set (ap (λ u. slice_get u (ticket.number - 1)) (sym (claimed-claim past worker s)) ∙ o.numbered))
      (Contains-push_cases past (event worker s Claim) (event ticket.worker ticket.set Claim) o.may_end.claimed)
    where
      fresh : s ≡ ticket.set → ¬ Contains (claimed_sets past) ticket.set
      fresh same = subst (λ t. ¬ Contains (claimed_sets past) t) same m.fresh

      go : (slice_get (claimed_sets past) (ticket.number - 1) ≡ Some ticket.set) ⊎ ((ticket.number - 1 ≡ length (claimed_sets past)) × (s ≡ ticket.set)) → Contains past (event ticket.worker ticket.set Claim) ⊎ (event worker s Claim ≡ event ticket.worker ticket.set Claim) → IsOpen past ticket ⊎ (ticket ≡ next_ticket past worker s)
      go (inl listed) (inl claimed) = inl (record {
        from_one = o.from_one;
        numbered = listed;
        may_end = record { claimed = claimed; open_still = λ c. o.may_end.open_still (subst (λ u. Contains u ticket.set) (sym (ended-claim past worker s)) c) };
      })
      go (inl listed) (inr same) = absurd (fresh (ap (λ (e : Event). e.set) same) (listed_claim past (ticket.number - 1) ticket.set listed))
      go (inr last) (inl claimed) = absurd (fresh last.1 (contains_claimed past ticket.worker ticket.set claimed))
      go (inr last) (inr same) =
          let one = o.from_one in
          let place = last.0 in
          inr (ticket_is ticket (claim_count past + 1) worker s (omega arith) (sym (ap (λ (e : Event). e.worker) same)) (sym last.1))

  still_or_own : IsLegal qp past → MayClaim qp past s → IsOpen past ticket ⊎ (ticket ≡ next_ticket past worker s) → IsOpen (past ++ event worker s Claim ∷ []) ticket
  still_or_own legal m (inl o) = open_after_claim past worker s ticket o
  still_or_own legal m (inr own) =
      subst (IsOpen (past ++ event worker s Claim ∷ [])) (sym own)
      (opens past (claim_count past) worker (next_ticket past worker s) refl refl refl (λ c. m.fresh (ended_was_claimed qp past s legal c)))

-- ---- the open claims after an end
module _ (past : List Event) (worker : ℕ) (s : List ℕ) (kind : EventKind) (ticket : Ticket) (ends : is_claim kind ≡ false) where
  old_and_other : IsOpen (past ++ event worker s kind ∷ []) ticket → IsOpen past ticket × (ticket.set ≢ s)
  old_and_other o = (
    record {
      from_one = o.from_one;
      numbered = ap (λ u. slice_get u (ticket.number - 1)) (sym (claimed-end past worker s kind ends)) ∙ o.numbered;
      may_end = record {
        claimed = elim (Contains-push_cases past (event worker s kind) (event ticket.worker ticket.set Claim) o.may_end.claimed) [ inl c ↦ c | inr same ↦ absurd (not_claim same) ];
        open_still = λ c. still (Contains-append_left (ended_sets past) (s ∷ []) ticket.set c);
      };
    },
    λ same. still (subst (Contains (ended_sets past ++ s ∷ [])) (sym same) (Contains-push (ended_sets past) s)),
  )
    where
      not_claim : event worker s kind ≡ event ticket.worker ticket.set Claim → ⊥
      not_claim same = let claims : is_claim kind ≡ true = ap (λ (e : Event). is_claim e.kind) same in absurd (cc)

      still : Contains (ended_sets past ++ s ∷ []) ticket.set → ⊥
      still c = o.may_end.open_still (subst (λ u. Contains u ticket.set) (sym (ended-end past worker s kind ends)) c)

  old_still : IsOpen past ticket × (ticket.set ≢ s) → IsOpen (past ++ event worker s kind ∷ []) ticket
  old_still h = open_after_end past worker s kind ticket ends (λ same. h.1 (sym same)) h.0

pub open_claims : OpenClaims
open_claims qp past worker s Claim ticket legal m = (old_or_own qp past worker s ticket m, still_or_own qp past worker s ticket legal m)
open_claims qp past worker s (Done tag) ticket legal m = (old_and_other past worker s (Done tag) ticket refl, old_still past worker s (Done tag) ticket refl)
open_claims qp past worker s Drop ticket legal m = (old_and_other past worker s Drop ticket refl, old_still past worker s Drop ticket refl)

-- ---- a finished history
none_ends : (qp : Qp) (past : List Event) → IsLegal qp past → IsFinished qp past → (worker : ℕ) (s : List ℕ) → ¬ MayEnd past worker s
none_ends qp past legal f worker s = λ m.
    let settled = f.settled s (claimed_is_candidate qp past s legal (contains_claimed past worker s m.claimed)) in
    m.open_still (ended_by_done past s settled.tag settled.done)

pub finished_is_last : FinishedIsLast
finished_is_last qp past legal f worker s Claim = λ m. m.fresh (f.claimed s m.candidate)
finished_is_last qp past legal f worker s (Done tag) = λ m. none_ends qp past legal f worker s m.0
finished_is_last qp past legal f worker s Drop = none_ends qp past legal f worker s

-- ---- the count of claims up to a place
claim_at : (es : List Event) (i w : ℕ) (s : List ℕ) → slice_get es i ≡ Some (event w s Claim) → (n : ℕ) × (claim_count (take (suc i) es) ≡ suc n) × (slice_get (claimed_sets es) n ≡ Some s)
claim_at [] i w s e = absurd (cc)
claim_at (x ∷ es) zero w s e =
    let same : x ≡ event w s Claim = cc in
    subst (λ (y : Event). (n : ℕ) × (claim_count (y ∷ []) ≡ suc n) × (slice_get (claimed_sets (y ∷ es)) n ≡ Some s)) (sym same) (0, refl, refl)
claim_at (x ∷ es) (suc i) w s e = later (is_claim x.kind) (claim_at es i w s e)
  where
    later : (b : Bool) → (n : ℕ) × (claim_count (take (suc i) es) ≡ suc n) × (slice_get (claimed_sets es) n ≡ Some s) → (n : ℕ) × (length ((if b then x.set ∷ [] else []) ++ claimed_sets (take (suc i) es)) ≡ suc n) × (slice_get ((if b then x.set ∷ [] else []) ++ claimed_sets es) n ≡ Some s)
    later true (n, c, l) = (suc n, ap suc c, l)
    later false t = t

same_place : (sets : List (List ℕ)) (m n : ℕ) (s : List ℕ) → AllPairs (λ (t u : List ℕ). t ≢ u) sets → slice_get sets m ≡ Some s → slice_get sets n ≡ Some s → m ≡ n
same_place sets m n s h p q = elim (cases_lt m n) [
  | inl l ↦ absurd (h m n [] l (slice_get_within sets n s q) (get_or_from_slice_get sets m s [] p ∙ sym (get_or_from_slice_get sets n s [] q)))
  | inr k ↦ elim (cases_lt n m) [
    | inl l ↦ absurd (h n m [] l (slice_get_within sets m s p) (get_or_from_slice_get sets n s [] q ∙ sym (get_or_from_slice_get sets m s [] p)))
    | inr o ↦ omega arith
  ]
]

-- no set stands at two claims
claimed_again : (x : Event) (es : List Event) (v w j : ℕ) (s : List ℕ) → AllPairs (λ (t u : List ℕ). t ≢ u) (claimed_sets (x ∷ es)) → Some x ≡ Some (event v s Claim) → slice_get es j ≡ Some (event w s Claim) → ⊥
claimed_again x es v w j s h p q =
    let same : x ≡ event v s Claim = cc in
    let (n, count, listed) = claim_at es j w s q in
    first (subst (λ (y : Event). AllPairs (λ (t u : List ℕ). t ≢ u) (claimed_sets (y ∷ es))) same h) n listed
  where
    first : AllPairs (λ (t u : List ℕ). t ≢ u) (s ∷ claimed_sets es) → (n : ℕ) → slice_get (claimed_sets es) n ≡ Some s → ⊥
    first k n l = let within = slice_get_within (claimed_sets es) n s l in k 0 (suc n) [] (omega arith) (omega arith) (sym (get_or_from_slice_get (claimed_sets es) n s [] l))

one_claim_place : (es : List Event) (i j v w : ℕ) (s : List ℕ) → AllPairs (λ (t u : List ℕ). t ≢ u) (claimed_sets es) → slice_get es i ≡ Some (event v s Claim) → slice_get es j ≡ Some (event w s Claim) → i ≡ j
one_claim_place [] i j v w s h p q = absurd (cc)
one_claim_place (x ∷ es) zero zero v w s h p q = refl
one_claim_place (x ∷ es) zero (suc j) v w s h p q = absurd (claimed_again x es v w j s h p q)
one_claim_place (x ∷ es) (suc i) zero v w s h p q = absurd (claimed_again x es w v i s h q p)
one_claim_place (x ∷ es) (suc i) (suc j) v w s h p q = ap suc (one_claim_place es i j v w s (rest (is_claim x.kind) h) p q)
  where
    rest : (b : Bool) → AllPairs (λ (t u : List ℕ). t ≢ u) ((if b then x.set ∷ [] else []) ++ claimed_sets es) → AllPairs (λ (t u : List ℕ). t ≢ u) (claimed_sets es)
    rest true k = λ m n d l r. k (suc m) (suc n) d (omega arith) (omega arith)
    rest false k = k

pub counted_tickets : CountedTickets
counted_tickets qp past ticket legal o =
    let (i, within, e) = o.may_end.claimed in
    let here : slice_get past i ≡ Some (event ticket.worker ticket.set Claim) = slice_get-get_or past i (event ticket.worker ticket.set Claim) within ∙ ap Some e in
    let once = no_set_claimed_twice qp past legal in
    let (n, count, listed) = claim_at past i ticket.worker ticket.set here in
    let same = same_place (claimed_sets past) n (ticket.number - 1) ticket.set once listed o.numbered in
    let one = o.from_one in
    let number : ticket.number ≡ claim_count (take (suc i) past) = omega (arith, same, count, one) in
    record {
      place = i;
      claim_is = here;
      number_is = (let next : i + 1 ≡ suc i = omega arith in rw next number);
      only = λ other worker there. one_claim_place past other i worker ticket.worker ticket.set once there here;
    }

-- ---- as the history grows
pub standing_tickets : StandingTickets
standing_tickets past more ticket o = record {
  numbered = numbered;
  open_until_ended = (
    λ later c. later.may_end.open_still (subst (λ u. Contains u ticket.set) (sym (ended_sets-append past more)) (Contains-append_right (ended_sets past) (ended_sets more) ticket.set c)),
    λ none. record {
      from_one = o.from_one;
      numbered = numbered;
      may_end = record {
        claimed = Contains-append_left past more (event ticket.worker ticket.set Claim) o.may_end.claimed;
        open_still = λ c. elim (Contains-append_cases (ended_sets past) (ended_sets more) ticket.set (subst (λ u. Contains u ticket.set) (ended_sets-append past more) c)) [ inl k ↦ o.may_end.open_still k | inr k ↦ none k ];
      };
    },
  );
}
  where
    numbered : slice_get (claimed_sets (past ++ more)) (ticket.number - 1) ≡ Some ticket.set
    numbered = ap (λ u. slice_get u (ticket.number - 1)) (claimed_sets-append past more) ∙ slice_get-front (claimed_sets past) (claimed_sets more) (ticket.number - 1) ticket.set o.numbered
