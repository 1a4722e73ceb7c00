-- What the calls on a registry answer and leave.
use Rattle.std.specs.Prelude.{◌≡◌, ℕ, ◌+◌, ◌-◌, ◌<◌, ◌⊎◌, List, [], ◌∷◌, ◌++◌, length, true, false, Result, Ok, Err, slice_set}
use Rattle.mpc_frac.specs.declared.NoMemory.{NoMemory}
use Rattle.mpc_sets.specs.SetOrder.{IsBefore}
use Rattle.mpc_rows.specs.declared.programs.Qp.{Qp}
use Rattle.mpc_rows.specs.declared.verdicts.Verdict.{Verdict}
use Rattle.mpc_rows.specs.Candidates.{IsCandidate}
use Rattle.mpc_rows.specs.Verdicts.{IsRight}
use Rattle.mpc_claim.specs.declared.events.EventKind.TheVariants.{Claim, Done, Drop}
use Rattle.mpc_claim.specs.declared.events.Phase.TheVariants.{Working, Finished, Stopped}
use Rattle.mpc_claim.specs.declared.candidates.Slot.TheVariants.{Done as DoneSlot, Dropped}
use Rattle.mpc_claim.specs.declared.tickets.Ticket.{Ticket}
use Rattle.mpc_claim.specs.declared.tickets.Claimed.{Claimed}
use Rattle.mpc_claim.specs.declared.tickets.Claimed.TheVariants.{Job, Idle, Finished as FinishedAnswer, Stopped as StoppedAnswer}
use Rattle.mpc_claim.specs.Board.{Board, at, event, candidate, tag_of, is_wide}
use Rattle.mpc_claim.specs.History.{claimed_sets, has_drop, MayClaim, IsOpen, IsFinished, IsIdle, EndsWide, WantsMemory}
use Rattle.mpc_claim.specs.Books.{is_bad, IsSound}

-- the least waiting candidate is given out under the next number, and all else in the history stays
pub record GivesJob (old : Board) (worker : ℕ) (ticket : Ticket) (new : Board) : Type 0 where
  pub working : old.phase ≡ Working
  pub may_claim : MayClaim old.program old.history ticket.set
  pub worker_is : ticket.worker ≡ worker
  pub number_is : ticket.number ≡ length (claimed_sets old.history) + 1
  pub program : new.program ≡ old.program
  pub phase : new.phase ≡ Working
  pub history : new.history ≡ old.history ++ event worker ticket.set Claim ∷ []
  pub opens : IsOpen new.history ticket
  pub sound : IsSound new

-- all candidates of the level are claimed, and one of them isn't ended
pub record FindsIdle (board : Board) : Type 0 where
  pub working : board.phase ≡ Working
  pub idle : IsIdle board.program board.history

-- memory may be wanted only where a set is given out or the next level is formed
pub record IsRefused (board : Board) : Type 0 where
  pub working : board.phase ≡ Working
  pub wants : WantsMemory board.program board.history

-- the cases of a claim, by its answer
abbrev pub Claims : Board → ℕ → Result Claimed NoMemory → Board → Type 0
Claims old worker (Ok (Job ticket)) new = GivesJob old worker ticket new
Claims old worker (Ok Idle) new = (new ≡ old) × FindsIdle old
Claims old worker (Ok FinishedAnswer) new = (new ≡ record old { phase = Finished }) × IsFinished old.program old.history
Claims old worker (Ok StoppedAnswer) new = (new ≡ record old { phase = Stopped }) × ((has_drop old.history ≡ true) ⊎ EndsWide old.program old.history)
Claims old worker (Err refused) new = (new ≡ old) × IsRefused old

-- the ticket's slot holds the verdict, and its delivery is the last event
abbrev pub delivered : Board → Ticket → Verdict → Board
delivered old ticket verdict = record old {
  candidates = slice_set old.candidates (ticket.number - 1) (candidate ticket.set (DoneSlot verdict));
  history = old.history ++ event ticket.worker ticket.set (Done (tag_of verdict)) ∷ [];
}

-- the ticket's slot is given up, and no further set is given out
abbrev pub abandoned : Board → Ticket → Board
abandoned old ticket = record old {
  candidates = slice_set old.candidates (ticket.number - 1) (candidate ticket.set Dropped);
  phase = Stopped;
  history = old.history ++ event ticket.worker ticket.set Drop ∷ [];
}

-- the verdict on the least candidate with a wide one: each candidate before it has a right verdict that isn't wide
pub record IsFirstBad (qp : Qp) (verdict : Verdict) : Type 0 where
  pub set : List ℕ
  pub candidate : IsCandidate qp set
  pub right : IsRight qp set verdict
  pub wide : is_wide verdict ≡ true
  pub before : (t : List ℕ) → IsCandidate qp t → IsBefore t set → (other : Verdict) × IsRight qp t other × (is_wide other ≡ false)

-- the verdict is that of the first candidate with a wide one
pub record IsLeastBad (board : Board) (verdict : Verdict) : Type 0 where
  pub place : ℕ
  pub in_range : place < length board.candidates
  pub slot_is : (at board.candidates place).slot ≡ DoneSlot verdict
  pub wide : is_wide verdict ≡ true
  pub before : (i : ℕ) → i < place → is_bad (at board.candidates i).slot ≡ false
