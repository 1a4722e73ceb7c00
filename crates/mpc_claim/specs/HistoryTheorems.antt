-- Theorems of histories, for those who keep one in pieces.
use Rattle.std.specs.Prelude.{◌≡◌, ◌≢◌, ◌↔◌, ℕ, ◌+◌, ◌-◌, ◌≤◌, ◌⊎◌, List, [], ◌∷◌, ◌++◌, length, take, true, ◌||◌, Contains, Some, slice_get, AllPairs}
use Rattle.mpc_space.specs.Matrix.{height}
use Rattle.mpc_sets.specs.RowSet.{IsSetOfRows}
use Rattle.mpc_rows.specs.Candidates.{IsCandidate}
use Rattle.mpc_claim.specs.declared.events.Tag.{Tag}
use Rattle.mpc_rows.specs.declared.programs.Qp.{Qp}
use Rattle.mpc_claim.specs.declared.events.Event.{Event}
use Rattle.mpc_claim.specs.declared.events.EventKind.{EventKind}
use Rattle.mpc_claim.specs.declared.events.EventKind.TheVariants.{Claim, Done, Drop}
use Rattle.mpc_claim.specs.declared.tickets.Ticket.{Ticket}
use Rattle.mpc_claim.specs.Board.{event}
use Rattle.mpc_claim.specs.History.{claimed_sets, ended_sets, has_drop, IsRightTag, MayClaim, MayEnd, MayFollow, IsLegal, IsOpen, IsFinished, IsIdle, EndsWide, WantsMemory}
use Rattle.mpc_claim.specs.OpenClaims.{has, opened, open_of}

-- the number of claims
abbrev pub claim_count : List Event → ℕ
claim_count history = length (claimed_sets history)

-- the ticket of the next claim
abbrev pub next_ticket : List Event → ℕ → List ℕ → Ticket
next_ticket past worker s = record { number = claim_count past + 1; worker = worker; set = s }

-- the tickets of open claims after one event more: a claim adds its own ticket, an end takes that of its set away
abbrev pub IsOpenAfter : List Event → ℕ → List ℕ → EventKind → Ticket → Type 0
IsOpenAfter past worker s Claim ticket = IsOpen past ticket ⊎ (ticket ≡ next_ticket past worker s)
IsOpenAfter past worker s (Done tag) ticket = IsOpen past ticket × (ticket.set ≢ s)
IsOpenAfter past worker s Drop ticket = IsOpen past ticket × (ticket.set ≢ s)

abbrev pub OpenClaims : Type 0
OpenClaims = (qp : Qp) (past : List Event) (worker : ℕ) (s : List ℕ) (kind : EventKind) (ticket : Ticket) → IsLegal qp past → MayFollow qp past worker s kind
    → IsOpen (past ++ event worker s kind ∷ []) ticket ↔ IsOpenAfter past worker s kind ticket

-- a history is legal where each event may follow those before it
pub record LegalTheorems : Type 0 where
  pub nothing : (qp : Qp) → IsLegal qp []
  pub more : (qp : Qp) (past : List Event) (e : Event) → IsLegal qp past → MayFollow qp past e.worker e.set e.kind → IsLegal qp (past ++ e ∷ [])
  pub last : (qp : Qp) (past : List Event) (e : Event) → IsLegal qp (past ++ e ∷ []) → MayFollow qp past e.worker e.set e.kind
  -- each delivery has the tag of a right verdict
  pub right_tags : (qp : Qp) (past : List Event) (worker : ℕ) (s : List ℕ) (tag : Tag) → IsLegal qp past → Contains past (event worker s (Done tag)) → IsRightTag qp s tag

-- the claims of a legal history: of candidates, no set twice, and no end without one
pub record ClaimTheorems : Type 0 where
  pub once : (qp : Qp) (past : List Event) → IsLegal qp past → AllPairs (λ (s t : List ℕ). s ≢ t) (claimed_sets past)
  pub candidates : (qp : Qp) (past : List Event) (s : List ℕ) → IsLegal qp past → Contains (claimed_sets past) s → IsCandidate qp s
  pub ended : (qp : Qp) (past : List Event) (s : List ℕ) → IsLegal qp past → Contains (ended_sets past) s → Contains (claimed_sets past) s
  pub few : (qp : Qp) (past : List Event) → IsLegal qp past → claim_count past ≤ 56049058
  pub by_worker : (past : List Event) (s : List ℕ) → Contains (claimed_sets past) s → (worker : ℕ) × Contains past (event worker s Claim)
  pub claims : (past : List Event) (worker : ℕ) (s : List ℕ) → Contains past (event worker s Claim) → Contains (claimed_sets past) s

-- what is claimed, ended and given up in one history and then another
pub record AppendTheorems : Type 0 where
  pub claimed : (past more : List Event) → claimed_sets (past ++ more) ≡ claimed_sets past ++ claimed_sets more
  pub ended : (past more : List Event) → ended_sets (past ++ more) ≡ ended_sets past ++ ended_sets more
  pub dropped : (past more : List Event) → has_drop (past ++ more) ≡ (has_drop past || has_drop more)

-- a candidate is a set of rows, of no more rows than there are unknowns
pub record CandidateTheorems : Type 0 where
  pub rows : (qp : Qp) (s : List ℕ) → IsCandidate qp s → IsSetOfRows (height qp.g) s
  pub few : (qp : Qp) (s : List ℕ) → IsCandidate qp s → length s ≤ height qp.h

-- the list of open claims: one event more, and what it has
pub record OpenListTheorems : Type 0 where
  pub more : (past : List Event) (e : Event) → open_of (past ++ e ∷ []) ≡ opened (open_of past) e
  pub has_open : (past : List Event) (worker : ℕ) (s : List ℕ) → MayEnd past worker s → has (worker, s) (open_of past) ≡ true
  pub is_open : (qp : Qp) (past : List Event) (worker : ℕ) (s : List ℕ) → IsLegal qp past → has (worker, s) (open_of past) ≡ true → MayEnd past worker s

-- the causes of a claim's answers exclude each other: where the history is idle or ended with a wide verdict, nothing is given out, no level is
-- formed, and nothing is finished
pub record AnswerTheorems : Type 0 where
  pub idle_alone : (qp : Qp) (past : List Event) → IsLegal qp past → IsIdle qp past → (¬ WantsMemory qp past) × (¬ IsFinished qp past) × (¬ EndsWide qp past)
  pub wide_alone : (qp : Qp) (past : List Event) → IsLegal qp past → EndsWide qp past → (¬ WantsMemory qp past) × (¬ IsFinished qp past)
  pub finished_alone : (qp : Qp) (past : List Event) → IsFinished qp past → (s : List ℕ) → ¬ MayClaim qp past s

abbrev pub LegalBeginnings : Type 0
LegalBeginnings = (qp : Qp) (past more : List Event) → IsLegal qp (past ++ more) → IsLegal qp past

abbrev pub FinishedIsLast : Type 0
FinishedIsLast = (qp : Qp) (past : List Event) → IsLegal qp past → IsFinished qp past → (worker : ℕ) (s : List ℕ) (kind : EventKind) → ¬ MayFollow qp past worker s kind

abbrev pub EndsWideIsLast : Type 0
EndsWideIsLast = (qp : Qp) (past : List Event) → IsLegal qp past → EndsWide qp past → (worker : ℕ) (s : List ℕ) (kind : EventKind) → ¬ MayFollow qp past worker s kind

-- nothing stands behind a history that is finished or ended with a wide verdict
abbrev pub EndedIsWhole : Type 0
EndedIsWhole = (qp : Qp) (past more : List Event) → IsLegal qp (past ++ more) → IsFinished qp past ⊎ EndsWide qp past → more ≡ []

-- the one place of the claim of the ticket's set, counted from 0: the ticket's number is the count of the claims up to and with it
pub record IsCounted (past : List Event) (ticket : Ticket) : Type 0 where
  pub place : ℕ
  pub claim_is : slice_get past place ≡ Some (event ticket.worker ticket.set Claim)
  pub number_is : ticket.number ≡ claim_count (take (place + 1) past)
  pub only : (other worker : ℕ) → slice_get past other ≡ Some (event worker ticket.set Claim) → other ≡ place

abbrev pub CountedTickets : Type 0
CountedTickets = (qp : Qp) (past : List Event) (ticket : Ticket) → IsLegal qp past → IsOpen past ticket → IsCounted past ticket

-- after more events the number still stands for the set, and the claim is open until one of them ends the set
pub record StandsAfter (past more : List Event) (ticket : Ticket) : Type 0 where
  pub numbered : slice_get (claimed_sets (past ++ more)) (ticket.number - 1) ≡ Some ticket.set
  pub open_until_ended : IsOpen (past ++ more) ticket ↔ (¬ Contains (ended_sets more) ticket.set)

abbrev pub StandingTickets : Type 0
StandingTickets = (past more : List Event) (ticket : Ticket) → IsOpen past ticket → StandsAfter past more ticket
