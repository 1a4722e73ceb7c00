-- What a worker's move makes of the registry and of the worker's hand.
use Rattle.std.specs.Prelude.{◌≡◌, ℕ, List, Option, None, Some, IsSome, Result, Ok, Err}
use Rattle.mpc_frac.specs.declared.NoMemory.{NoMemory}
use Rattle.mpc_rows.specs.declared.programs.Qp.{Qp}
use Rattle.mpc_rows.specs.JudgedSet.{JudgedSet}
use Rattle.mpc_rows.specs.Verdicts.{IsRight}
use Rattle.mpc_claim.specs.declared.tickets.Ticket.{Ticket}
use Rattle.mpc_claim.specs.declared.tickets.Claimed.{Claimed}
use Rattle.mpc_claim.specs.declared.tickets.Claimed.TheVariants.{Job, Idle as IdleAnswer, Finished as FinishedAnswer, Stopped as StoppedAnswer}
use Rattle.mpc_claim.specs.declared.moves.Action.{Action}
use Rattle.mpc_claim.specs.declared.moves.Action.TheVariants.{Claim, Deliver, Abandon}
use Rattle.mpc_claim.specs.declared.moves.Played.{Played}
use Rattle.mpc_claim.specs.declared.moves.Played.TheVariants.{Got, Idle, Finished, Stopped, Delivered, Dropped, Skipped}
use Rattle.mpc_claim.specs.Board.{Board}
use Rattle.mpc_claim.specs.Answers.{Claims, IsRefused, delivered, abandoned}

-- the hand has the ticket of this set
abbrev pub HoldsSet : Option Ticket → List ℕ → Type 0
HoldsSet None s = ⊥
HoldsSet (Some ticket) s = ticket.set ≡ s

-- a verdict that is delivered is right for the program
abbrev pub IsRightAction : Qp → Action → Type 0
IsRightAction qp Claim = Unit {0}
IsRightAction qp (Deliver judged) = IsRight qp judged.set judged.verdict
IsRightAction qp Abandon = Unit {0}

-- the empty hand holds the ticket of the claim
pub record GetsJob (worker : ℕ) (old : Board) (hand : Option Ticket) (new : Board) (later : Option Ticket) : Type 0 where
  pub empty : hand ≡ None
  pub ticket : Ticket
  pub holds : later ≡ Some ticket
  pub claims : Claims old worker (Ok (Job ticket)) new

-- the hand is and stays empty, by this answer of the claim
pub record GetsNone (answer : Claimed) (worker : ℕ) (old : Board) (hand : Option Ticket) (new : Board) (later : Option Ticket) : Type 0 where
  pub empty : hand ≡ None
  pub empty_still : later ≡ None
  pub claims : Claims old worker (Ok answer) new

-- the hand's ticket is spent on the delivery of its set
pub record HandsIn (judged : JudgedSet) (old : Board) (hand : Option Ticket) (new : Board) (later : Option Ticket) : Type 0 where
  pub ticket : Ticket
  pub held : hand ≡ Some ticket
  pub same_set : ticket.set ≡ judged.set
  pub empty : later ≡ None
  pub delivers : new ≡ delivered old ticket judged.verdict

-- the hand's ticket is spent on giving its set up
pub record GivesUp (old : Board) (hand : Option Ticket) (new : Board) (later : Option Ticket) : Type 0 where
  pub ticket : Ticket
  pub held : hand ≡ Some ticket
  pub empty : later ≡ None
  pub abandons : new ≡ abandoned old ticket

pub record Stays (old : Board) (hand : Option Ticket) (new : Board) (later : Option Ticket) : Type 0 where
  pub registry : new ≡ old
  pub hand_is : later ≡ hand

abbrev pub ClaimMoves : ℕ → Result Played NoMemory → Board → Option Ticket → Board → Option Ticket → Type 0
ClaimMoves worker (Ok Got) old hand new later = GetsJob worker old hand new later
ClaimMoves worker (Ok Idle) old hand new later = GetsNone IdleAnswer worker old hand new later
ClaimMoves worker (Ok Finished) old hand new later = GetsNone FinishedAnswer worker old hand new later
ClaimMoves worker (Ok Stopped) old hand new later = GetsNone StoppedAnswer worker old hand new later
ClaimMoves worker (Ok Delivered) old hand new later = ⊥
ClaimMoves worker (Ok Dropped) old hand new later = ⊥
ClaimMoves worker (Ok Skipped) old hand new later = IsSome hand × Stays old hand new later
ClaimMoves worker (Err refused) old hand new later = (hand ≡ None) × IsRefused old × Stays old hand new later

abbrev pub DeliveryMoves : JudgedSet → Played → Board → Option Ticket → Board → Option Ticket → Type 0
DeliveryMoves judged Got old hand new later = ⊥
DeliveryMoves judged Idle old hand new later = ⊥
DeliveryMoves judged Finished old hand new later = ⊥
DeliveryMoves judged Stopped old hand new later = ⊥
DeliveryMoves judged Delivered old hand new later = HandsIn judged old hand new later
DeliveryMoves judged Dropped old hand new later = ⊥
DeliveryMoves judged Skipped old hand new later = (¬ HoldsSet hand judged.set) × Stays old hand new later

abbrev pub AbandonmentMoves : Played → Board → Option Ticket → Board → Option Ticket → Type 0
AbandonmentMoves Got old hand new later = ⊥
AbandonmentMoves Idle old hand new later = ⊥
AbandonmentMoves Finished old hand new later = ⊥
AbandonmentMoves Stopped old hand new later = ⊥
AbandonmentMoves Delivered old hand new later = ⊥
AbandonmentMoves Dropped old hand new later = GivesUp old hand new later
AbandonmentMoves Skipped old hand new later = (hand ≡ None) × Stays old hand new later

-- the cases of a move, by the action and its answer: want of memory comes from a claim alone
abbrev pub Moves : Action → ℕ → Result Played NoMemory → Board → Option Ticket → Board → Option Ticket → Type 0
Moves Claim worker answer old hand new later = ClaimMoves worker answer old hand new later
Moves (Deliver judged) worker (Ok played) old hand new later = DeliveryMoves judged played old hand new later
Moves (Deliver judged) worker (Err refused) old hand new later = ⊥
Moves Abandon worker (Ok played) old hand new later = AbandonmentMoves played old hand new later
Moves Abandon worker (Err refused) old hand new later = ⊥
