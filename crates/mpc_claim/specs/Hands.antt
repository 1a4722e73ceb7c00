-- Workers with a hand each, over one registry.
use Rattle.std.specs.Prelude.{◌≡◌, ◌≢◌, ◌↔◌, ℕ, ◌+◌, List, [], ◌∷◌, Option, None, Some, slice_index_or, Contains, AllPairs}
use Rattle.mpc_rows.specs.declared.programs.Qp.{Qp}
use Rattle.mpc_rows.specs.Candidates.{IsCandidate}
use Rattle.mpc_claim.specs.declared.events.Event.{Event}
use Rattle.mpc_claim.specs.declared.events.Phase.TheVariants.{Finished}
use Rattle.mpc_claim.specs.declared.tickets.Ticket.{Ticket}
use Rattle.mpc_claim.specs.Board.{Board}
use Rattle.mpc_claim.specs.History.{claimed_sets, IsLegal, IsOpen}
use Rattle.mpc_claim.specs.Books.{IsSound}
use Rattle.mpc_claim.specs.Answers.{abandoned}

-- the registry, and the hands of the workers 1, 2, ..
pub record Workplace : Type 0 where
  pub registry : Board
  pub hands : List (Option Ticket)

-- the hand at a place, counted from 0
abbrev pub hand_at : List (Option Ticket) → ℕ → Option Ticket
hand_at hands i = slice_index_or hands i None

-- the ticket stands for an open claim of the worker with the hand at this place
pub record IsHeld (past : List Event) (i : ℕ) (ticket : Ticket) : Type 0 where
  pub open_still : IsOpen past ticket
  pub worker_is : ticket.worker ≡ i + 1

-- the facts of the type: a legal history, in which the hands' tickets stand for open claims
pub record HoldsOpen (qp : Qp) (past : List Event) (hands : List (Option Ticket)) : Type 0 where
  pub legal : IsLegal qp past
  pub held : (i : ℕ) (ticket : Ticket) → hand_at hands i ≡ Some ticket → IsHeld past i ticket

-- what holds after any moves of any workers
pub record IsReached (place : Workplace) : Type 0 where
  pub sound : IsSound place.registry
  pub held : (i : ℕ) (ticket : Ticket) → hand_at place.hands i ≡ Some ticket → IsHeld place.registry.history i ticket
  pub apart : (i j : ℕ) (ticket other : Ticket) → hand_at place.hands i ≡ Some ticket → hand_at place.hands j ≡ Some other → i ≢ j → ticket.set ≢ other.set
  pub none_twice : AllPairs (λ (s t : List ℕ). s ≢ t) (claimed_sets place.registry.history)
  pub all_claimed : place.registry.phase ≡ Finished → (s : List ℕ) → IsCandidate place.registry.program s ↔ Contains (claimed_sets place.registry.history) s

-- the sets in these hands are given up, the last hand first
abbrev pub emptied : Board → List (Option Ticket) → Board
emptied board [] = board
emptied board (None ∷ hands) = emptied board hands
emptied board (Some ticket ∷ hands) = abandoned (emptied board hands) ticket
