-- What a registry keeps: lists and cursors that agree with its history.
use Rattle.std.specs.Prelude.{◌≡◌, ℕ, ◌+◌, ◌-◌, ◌<◌, ◌≤◌, ◌⊎◌, List, [], length, Bool, true, false, Contains, Some, slice_get, slice_index_or, take, sum_by}
use Rattle.mpc_space.specs.Definite.{IsDefinite}
use Rattle.mpc_sets.specs.SetOrder.{IsInOrder}
use Rattle.mpc_rows.specs.declared.programs.Qp.{Qp}
use Rattle.mpc_rows.specs.Candidates.{IsCandidate}
use Rattle.mpc_rows.specs.Verdicts.{IsRight}
use Rattle.mpc_claim.specs.declared.events.Event.{Event}
use Rattle.mpc_claim.specs.declared.events.EventKind.TheVariants.{Drop}
use Rattle.mpc_claim.specs.declared.events.Phase.{Phase}
use Rattle.mpc_claim.specs.declared.events.Phase.TheVariants.{Working, Finished, Stopped}
use Rattle.mpc_claim.specs.declared.candidates.Candidate.{Candidate}
use Rattle.mpc_claim.specs.declared.candidates.Slot.{Slot}
use Rattle.mpc_claim.specs.declared.candidates.Slot.TheVariants.{Waiting, Claimed, Done, Dropped}
use Rattle.mpc_claim.specs.declared.tickets.Ticket.{Ticket}
use Rattle.mpc_claim.specs.Board.{Board, at, sets_of, event, tag_of, is_wide}
use Rattle.mpc_claim.specs.History.{claimed_sets, ended_sets, has_drop, IsDone, IsLegal, IsOpen, IsFinished, EndsWide}

abbrev pub is_done : Slot → Bool
is_done Waiting = false
is_done (Claimed number) = false
is_done (Done verdict) = true
is_done Dropped = false

-- the verdict is wide
abbrev pub is_bad : Slot → Bool
is_bad Waiting = false
is_bad (Claimed number) = false
is_bad (Done verdict) = is_wide verdict
is_bad Dropped = false

-- there is a verdict, and it isn't wide
pub record IsQuiet (slot : Slot) : Type 0 where
  pub done : is_done slot ≡ true
  pub not_bad : is_bad slot ≡ false

-- 1 for a slot that is claimed and not ended
abbrev pub open_in : Slot → ℕ
open_in Waiting = 0
open_in (Claimed number) = 1
open_in (Done verdict) = 0
open_in Dropped = 0

abbrev pub open_count : List Candidate → ℕ
open_count candidates = sum_by (λ (c : Candidate). open_in c.slot) candidates

-- the candidate was claimed, as the one of number i + 1, and its slot is what the history makes of it
abbrev pub IsBegun : Qp → List Event → ℕ → List ℕ → Slot → Type 0
IsBegun qp history i s Waiting = ⊥
IsBegun qp history i s (Claimed number) = (number ≡ i + 1) × ¬ Contains (ended_sets history) s
IsBegun qp history i s (Done verdict) = IsRight qp s verdict × IsDone history s (tag_of verdict)
IsBegun qp history i s Dropped = (worker : ℕ) × Contains history (event worker s Drop)

-- what a slot says of the history
abbrev pub IsSlotOf : Qp → List Event → ℕ → List ℕ → Slot → Type 0
IsSlotOf qp history i s Waiting = ¬ Contains (claimed_sets history) s
IsSlotOf qp history i s (Claimed number) = (slice_get (claimed_sets history) i ≡ Some s) × IsBegun qp history i s (Claimed number)
IsSlotOf qp history i s (Done verdict) = (slice_get (claimed_sets history) i ≡ Some s) × IsBegun qp history i s (Done verdict)
IsSlotOf qp history i s Dropped = (slice_get (claimed_sets history) i ≡ Some s) × IsBegun qp history i s Dropped

-- The sets are, in order, all candidates up to this size, and those from the place `settled` on are the candidates of the size.
pub record IsLineup (qp : Qp) (sets : List (List ℕ)) (settled size : ℕ) : Type 0 where
  pub in_order : IsInOrder sets
  pub candidates : (s : List ℕ) → Contains sets s → IsCandidate qp s
  pub complete : (s : List ℕ) → IsCandidate qp s → length s ≤ size → Contains sets s
  pub some_left : settled < length sets
  pub smaller : (i : ℕ) → i < settled → length (slice_index_or sets i []) < size
  pub of_size : (i : ℕ) → settled ≤ i → i < length sets → length (slice_index_or sets i []) ≡ size

-- the first `claims` candidates are those that were claimed, and each slot is what the history makes of it
pub record HasSlots (qp : Qp) (candidates : List Candidate) (settled claims open_slots : ℕ) (history : List Event) : Type 0 where
  pub claimed : claimed_sets history ≡ take claims (sets_of candidates)
  pub within : claims ≤ length candidates
  pub begun : (i : ℕ) → i < claims → IsBegun qp history i (at candidates i).set (at candidates i).slot
  pub rest : (i : ℕ) → claims ≤ i → (at candidates i).slot ≡ Waiting
  pub counted : open_count candidates ≡ open_slots
  pub quiet : (i : ℕ) → i < settled → IsQuiet (at candidates i).slot

pub record IsComplete (qp : Qp) (candidates : List Candidate) (history : List Event) : Type 0 where
  pub no_drop : has_drop history ≡ false
  pub quiet : (i : ℕ) → i < length candidates → IsQuiet (at candidates i).slot
  pub complete : (s : List ℕ) → IsCandidate qp s → Contains (sets_of candidates) s

pub record HasBad (candidates : List Candidate) (history : List Event) : Type 0 where
  pub no_drop : has_drop history ≡ false
  pub done : (i : ℕ) → i < length candidates → is_done (at candidates i).slot ≡ true
  pub place : ℕ
  pub in_range : place < length candidates
  pub bad : is_bad (at candidates place).slot ≡ true

abbrev pub HasPhase : Qp → List Candidate → List Event → Phase → Type 0
HasPhase qp candidates history Working = has_drop history ≡ false
HasPhase qp candidates history Finished = IsComplete qp candidates history
HasPhase qp candidates history Stopped = (has_drop history ≡ true) ⊎ HasBad candidates history

-- the facts of the type
pub record IsKept (qp : Qp) (candidates : List Candidate) (settled claims open_slots size : ℕ) (phase : Phase) (history : List Event) (capacity : ℕ) : Type 0 where
  pub definite : IsDefinite qp.h.rows
  pub legal : IsLegal qp history
  pub lineup : IsLineup qp (sets_of candidates) settled size
  pub slots : HasSlots qp candidates settled claims open_slots history
  pub phase_fits : HasPhase qp candidates history phase
  pub room : length history + open_slots ≤ capacity

-- The same facts as callers see them: the listed sets are all candidates up to the size of the last level, each slot is what the history makes
-- of it, and so is the phase.
abbrev pub IsPhaseOf : Qp → List Event → Phase → Type 0
IsPhaseOf qp history Working = has_drop history ≡ false
IsPhaseOf qp history Finished = IsFinished qp history
IsPhaseOf qp history Stopped = (has_drop history ≡ true) ⊎ EndsWide qp history

-- the set of the ticket stands at the place of its number, and its slot is claimed under that number
pub record IsClaimedSlot (candidates : List Candidate) (ticket : Ticket) : Type 0 where
  pub set_is : (at candidates (ticket.number - 1)).set ≡ ticket.set
  pub slot_is : (at candidates (ticket.number - 1)).slot ≡ Claimed ticket.number

pub record IsSound (board : Board) : Type 0 where
  pub definite : IsDefinite board.program.h.rows
  pub legal : IsLegal board.program board.history
  pub size : ℕ
  pub lineup : IsLineup board.program (sets_of board.candidates) board.settled size
  pub slots : (i : ℕ) → i < length board.candidates → IsSlotOf board.program board.history i (at board.candidates i).set (at board.candidates i).slot
  pub open_slots : (ticket : Ticket) → IsOpen board.history ticket → IsClaimedSlot board.candidates ticket
  pub phase_is : IsPhaseOf board.program board.history board.phase
