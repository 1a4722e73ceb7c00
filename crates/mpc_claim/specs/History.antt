-- Histories of claims and deliveries over the candidates of a program: which are legal, and where they have come to.
use Rattle.std.specs.Prelude.{◌≡◌, ◌≢◌, ℕ, ◌-◌, ◌<◌, ◌≤◌, ◌⊎◌, List, [], ◌∷◌, ◌++◌, length, Bool, true, false, ◌||◌, if◌then◌else◌, Contains, Some, slice_get}
use Rattle.mpc_sets.specs.SetOrder.{IsBefore}
use Rattle.mpc_rows.specs.declared.programs.Qp.{Qp}
use Rattle.mpc_rows.specs.declared.verdicts.Verdict.{Verdict}
use Rattle.mpc_rows.specs.Candidates.{IsCandidate}
use Rattle.mpc_rows.specs.Verdicts.{IsRight}
use Rattle.mpc_claim.specs.declared.events.Event.{Event}
use Rattle.mpc_claim.specs.declared.events.EventKind.{EventKind}
use Rattle.mpc_claim.specs.declared.events.EventKind.TheVariants.{Claim, Done, Drop}
use Rattle.mpc_claim.specs.declared.events.Tag.{Tag}
use Rattle.mpc_claim.specs.declared.events.Tag.TheVariants.{Wide}
use Rattle.mpc_claim.specs.declared.tickets.Ticket.{Ticket}
use Rattle.mpc_claim.specs.Board.{event, tag_of}

abbrev pub is_claim : EventKind → Bool
is_claim Claim = true
is_claim (Done tag) = false
is_claim Drop = false

abbrev pub is_drop : EventKind → Bool
is_drop Claim = false
is_drop (Done tag) = false
is_drop Drop = true

-- the sets that were claimed, in the order of their claims
abbrev pub claimed_sets : List Event → List (List ℕ)
claimed_sets [] = []
claimed_sets (e ∷ es) = (if is_claim e.kind then e.set ∷ [] else []) ++ claimed_sets es

-- the sets that were delivered or given up
abbrev pub ended_sets : List Event → List (List ℕ)
ended_sets [] = []
ended_sets (e ∷ es) = (if is_claim e.kind then [] else e.set ∷ []) ++ ended_sets es

-- a set was given up
abbrev pub has_drop : List Event → Bool
has_drop [] = false
has_drop (e ∷ es) = is_drop e.kind || has_drop es

-- the set was delivered with this tag
pub record IsDone (past : List Event) (s : List ℕ) (tag : Tag) : Type 0 where
  pub worker : ℕ
  pub delivery : Contains past (event worker s (Done tag))

-- the set was delivered, and its verdict isn't wide
pub record IsSettled (past : List Event) (s : List ℕ) : Type 0 where
  pub tag : Tag
  pub done : IsDone past s tag
  pub not_wide : tag ≢ Wide

-- the set is the least candidate that isn't claimed, all smaller candidates are settled, and none was given up
pub record MayClaim (qp : Qp) (past : List Event) (s : List ℕ) : Type 0 where
  pub no_drop : has_drop past ≡ false
  pub candidate : IsCandidate qp s
  pub fresh : ¬ Contains (claimed_sets past) s
  pub least : (t : List ℕ) → IsCandidate qp t → IsBefore t s → Contains (claimed_sets past) t
  pub smaller_settled : (t : List ℕ) → IsCandidate qp t → length t < length s → IsSettled past t

-- the worker has claimed the set, which is neither delivered nor given up
pub record MayEnd (past : List Event) (worker : ℕ) (s : List ℕ) : Type 0 where
  pub claimed : Contains past (event worker s Claim)
  pub open_still : ¬ Contains (ended_sets past) s

-- the tag is that of a right verdict on the set
pub record IsRightTag (qp : Qp) (s : List ℕ) (tag : Tag) : Type 0 where
  pub verdict : Verdict
  pub right : IsRight qp s verdict
  pub tagged : tag_of verdict ≡ tag

-- what may follow these events
abbrev pub MayFollow : Qp → List Event → ℕ → List ℕ → EventKind → Type 0
MayFollow qp past worker s Claim = MayClaim qp past s
MayFollow qp past worker s (Done tag) = MayEnd past worker s × IsRightTag qp s tag
MayFollow qp past worker s Drop = MayEnd past worker s

abbrev pub IsLegalAfter : Qp → List Event → List Event → Type 0
IsLegalAfter qp past [] = Unit {0}
IsLegalAfter qp past (e ∷ es) = MayFollow qp past e.worker e.set e.kind × IsLegalAfter qp (past ++ e ∷ []) es

-- each event may follow those before it; the theorems of histories say all that is needed of it
unfoldable pub IsLegal : Qp → List Event → Type 0
IsLegal qp history = IsLegalAfter qp [] history

-- the ticket stands for a claim of its worker, the one of its number, whose set is neither delivered nor given up
pub record IsOpen (past : List Event) (ticket : Ticket) : Type 0 where
  pub from_one : 1 ≤ ticket.number
  pub numbered : slice_get (claimed_sets past) (ticket.number - 1) ≡ Some ticket.set
  pub may_end : MayEnd past ticket.worker ticket.set

-- each candidate is claimed and settled, and none was given up
pub record IsFinished (qp : Qp) (past : List Event) : Type 0 where
  pub no_drop : has_drop past ≡ false
  pub claimed : (s : List ℕ) → IsCandidate qp s → Contains (claimed_sets past) s
  pub settled : (s : List ℕ) → IsCandidate qp s → IsSettled past s

-- all candidates up to a size are delivered, those of that size not all without a wide verdict, and none was given up
pub record EndsWide (qp : Qp) (past : List Event) : Type 0 where
  pub no_drop : has_drop past ≡ false
  pub size : ℕ
  pub delivered : (s : List ℕ) → IsCandidate qp s → length s ≤ size → (tag : Tag) × IsDone past s tag
  pub smaller_settled : (s : List ℕ) → IsCandidate qp s → length s < size → IsSettled past s
  pub bad : List ℕ
  pub of_size : length bad ≡ size
  pub candidate : IsCandidate qp bad
  pub wide : IsDone past bad Wide

-- a set is claimed and not ended, all candidates with no more members than it are claimed, and none was given up
pub record IsIdle (qp : Qp) (past : List Event) : Type 0 where
  pub no_drop : has_drop past ≡ false
  pub worker : ℕ
  pub set : List ℕ
  pub open_still : MayEnd past worker set
  pub all_claimed : (t : List ℕ) → IsCandidate qp t → length t ≤ length set → Contains (claimed_sets past) t

-- The last level, whose sets have as many members as the last claimed one, is done with no wide verdict: all candidates up to its size are
-- settled, and none was given up.
pub record EndsQuiet (qp : Qp) (past : List Event) : Type 0 where
  pub no_drop : has_drop past ≡ false
  pub last : List ℕ
  pub last_claimed : Contains (claimed_sets past) last
  pub greatest : (s : List ℕ) → Contains (claimed_sets past) s → length s ≤ length last
  pub settled : (s : List ℕ) → IsCandidate qp s → length s ≤ length last → IsSettled past s

-- a candidate may be claimed, or the next level is formed
abbrev pub WantsMemory : Qp → List Event → Type 0
WantsMemory qp past = ((s : List ℕ) × MayClaim qp past s) ⊎ EndsQuiet qp past
