-- A pass as callers see it, and what each call does to it.
use Rattle.std.specs.Prelude.{◌≡◌, ◌≢◌, ℕ, ◌+◌, ◌-◌, ◌<◌, ◌≤◌, ◌⊎◌, List, [], ◌∷◌, ◌++◌, length, drop, Bool, true, false, Result, Ok, Err, cond, slice_get, Some, ◌==◌, if◌then◌else◌, IfOk}
use Rattle.std.specs.List.{All}
use Rattle.atomic_table.specs.Seated.{TableId}
use Rattle.mpc_rows.specs.declared.programs.Qp.{Qp}
use Rattle.mpc_rows.specs.declared.verdicts.Verdict.{Verdict}
use Rattle.mpc_rows.specs.Candidates.{IsCandidate}
use Rattle.mpc_rows.specs.Verdicts.{IsRight}
use Rattle.mpc_claim.specs.declared.events.Event.{Event}
use Rattle.mpc_claim.specs.declared.events.EventKind.{EventKind}
use Rattle.mpc_claim.specs.declared.events.EventKind.TheVariants.{Claim}
use Rattle.mpc_claim.specs.declared.tickets.Ticket.{Ticket}
use Rattle.mpc_frac.specs.declared.NoMemory.{NoMemory}
use Rattle.mpc_claim.specs.declared.tickets.Ahead.{Ahead}
use Rattle.mpc_claim.specs.declared.tickets.Claimed.{Claimed}
use Rattle.mpc_claim.specs.declared.tickets.Claimed.TheVariants.{Job, Idle, Finished, Stopped}
use Rattle.mpc_claim.specs.Board.{Board, at, event}
use Rattle.mpc_claim.specs.declared.candidates.Slot.TheVariants.{Claimed as ClaimedSlot}
use Rattle.mpc_claim.specs.History.{claimed_sets, has_drop, MayClaim, IsLegal, IsOpen, IsFinished, IsIdle, EndsWide, WantsMemory}
use Rattle.mpc_claim.specs.OpenClaims.{held_by, open_of, has}
use Rattle.mpc_claim.specs.HistoryTheorems.{next_ticket}
use Rattle.mpc_claim.specs.Answers.{Claims}
use Rattle.mpc_turn.specs.declared.view.View.{View}
use Rattle.mpc_turn.specs.Views.{Call, weigh, weigh_all, placed, hand_of, Starts, numbered, turned, Follows, AreOpen}
use Rattle.mpc_turn.specs.Lock.{Sat, IsOutside}

-- what a clause sees of a turn
abbrev pub TurnId : Type 0
TurnId = TableId

-- The turn that it is of, whether it is the first pass, how many that one has lent, the program, the history with which the turn was made, the
-- worker, what it has seen, its calls, and the calls of the passes that have ended in it
pub record Known : Type 0 where
  pub turn : TableId
  pub first : Bool
  pub lent : ℕ
  pub program : Qp
  pub before : List Event
  pub worker : ℕ
  pub seen : List Event
  pub calls : List Call
  pub ended : List (List Call)

abbrev pub known : TableId → ℕ → View → Known
known id worker v = record { turn = id; first = v.first; lent = cond v.first (33 - v.parts) 0; program = v.program; before = v.before; worker = worker; seen = v.seen; calls = v.calls; ended = v.ended }

-- the positions rise from k on, and each call stands at its position
abbrev pub StandsFrom : List Event → ℕ → List Call → Type 0
StandsFrom seen k [] = Unit {0}
StandsFrom seen k (c ∷ cs) = (k ≤ c.0) × (slice_get seen c.0 ≡ Some c.1) × StandsFrom seen (c.0 + 1) cs

pub record IsPass (worker : ℕ) (m : Sat) : Type 0 where
  pub idle : IsOutside m.0
  pub empty : m.1 ≡ []
  pub alone : m.0.beside ≡ []
  pub living : 0 < m.0.parts
  pub most : m.0.parts ≤ 33
  pub lent : m.0.first ≡ false → m.0.parts ≡ 1
  pub one : m.0.firsts ≡ cond m.0.first 1 0
  pub legal : IsLegal m.0.program m.0.seen
  pub own : All (λ c. c.1.worker ≡ worker) m.0.calls
  pub begins : Starts m.0.seen m.0.before
  pub stands : StandsFrom m.0.seen (length m.0.before) m.0.calls

abbrev pub first_pass : TableId → Board → Known
first_pass id r = record { turn = id; first = true; lent = 0; program = r.program; before = r.history; worker = 0; seen = r.history; calls = []; ended = [] }

-- after a call that found this history and added an event
abbrev pub called : Known → List Event → Event → Known
called a h e = record a { seen = h ++ e ∷ []; calls = a.calls ++ (length h, e) ∷ [] }

-- after a call that found this history and added nothing
abbrev pub looked_on : Known → List Event → Known
looked_on a h = record a { seen = h }

-- a call that changes nothing saw a history that begins with what was seen
abbrev pub Looks : Known → Known → Type 0
Looks a b = Starts b.seen a.seen × (b ≡ looked_on a b.seen)

-- the answer is that of the registry where the call found the history
abbrev pub ClaimedAs : Known → Result Claimed NoMemory → Known → Type 0
ClaimedAs a (Ok (Job t)) b = (h : List Event) × Starts h a.seen × (b ≡ called a h (event a.worker t.set Claim)) × (t ≡ next_ticket h a.worker t.set) × MayClaim a.program h t.set
ClaimedAs a (Ok Idle) b = Starts b.seen a.seen × (b ≡ looked_on a b.seen) × IsIdle a.program b.seen
ClaimedAs a (Ok Finished) b = Starts b.seen a.seen × (b ≡ looked_on a b.seen) × IsFinished a.program b.seen
ClaimedAs a (Ok Stopped) b = Starts b.seen a.seen × (b ≡ looked_on a b.seen) × ((has_drop b.seen ≡ true) ⊎ EndsWide a.program b.seen)
ClaimedAs a (Err e) b = Starts b.seen a.seen × (b ≡ looked_on a b.seen) × WantsMemory a.program b.seen

-- the ticket was spent, on a delivery or on giving its set up
abbrev pub EndedAs : Known → Ticket → EventKind → Known → Type 0
EndedAs a t kind b = (h : List Event) × Starts h a.seen × (b ≡ called a h (event t.worker t.set kind))

-- a set in the hand was ended, and then a set was claimed, or not
abbrev pub EndedThenClaimed : Known → Ticket → EventKind → Result Claimed NoMemory → Known → Type 0
EndedThenClaimed a t kind answer b = (mid : Known) × EndedAs a t kind mid × ClaimedAs mid answer b

-- the pass's calls have claimed the ticket's set and neither delivered it nor given it up, and its number is the count of claims up to that one
pub record InHand (t : Ticket) (k : Known) : Type 0 where
  pub held : has (held_by t) (hand_of k.calls) ≡ true
  pub from_one : 1 ≤ t.number
  pub numbered : slice_get (claimed_sets k.seen) (t.number - 1) ≡ Some t.set

-- what is true of each pass: what it has seen is a legal history that begins with the opening one, and its calls are its worker's and stand there after the opening
pub record Facts (k : Known) : Type 0 where
  pub legal : IsLegal k.program k.seen
  pub begins : Starts k.seen k.before
  pub own : All (λ c. c.1.worker ≡ k.worker) k.calls
  pub stands : StandsFrom k.seen (length k.before) k.calls

-- inside a turn

-- the registry is out with this seat, which has the turn
abbrev pub HasTurn : View → Sat → Type 0
HasTurn v m = (n : ℕ) × (r : Board) × (m ≡ (turned (numbered v n) r.history, (0, r) ∷ [])) × (r.program ≡ v.program) × Starts r.history v.seen × IsLegal r.program r.history × AreOpen v.calls r.history

abbrev pub Holds : List (ℕ × Board) → (Board → Type 0) → Type 0
Holds c P = (r : Board) × (c ≡ (0, r) ∷ []) × P r

-- what a seat that has the turn must have, to give it up
abbrev pub IsDue : Sat → Type 0
IsDue m = (m.0.turn ≡ true) × (0 < m.0.parts) × Holds m.1 (Follows m.0)

-- the verdict may be delivered with this ticket
abbrev pub MayDeliver : Ticket → Verdict → Board → Type 0
MayDeliver t verdict r = IsOpen r.history t × IsRight r.program t.set verdict

-- what calls do to the registry that is out
abbrev pub ClaimsBy : ℕ → Result Claimed NoMemory → Board → Board → Type 0
ClaimsBy w answer r s = Claims r w answer s × IsLegal s.program s.history

abbrev pub EndsBy : Ticket → EventKind → Board → Board → Type 0
EndsBy t kind r s = (s.program ≡ r.program) × (s.history ≡ r.history ++ event t.worker t.set kind ∷ []) × IsLegal s.program s.history

-- a look ahead leaves it as it was, and answers with candidates
abbrev pub LooksAt : Result Ahead NoMemory → Board → Board → Type 0
LooksAt answer r s = (s ≡ r) × IsLegal s.program s.history × IfOk answer (λ (a : Ahead). All (IsCandidate r.program) a.sets.items)

-- 1 for a call at this position
abbrev pub at_place : ℕ → Call → ℕ
at_place p c = if c.0 == p then 1 else 0

-- it stands in this history at its position, from this one on
abbrev pub StandsAt : List Event → ℕ → Call → Type 0
StandsAt history k c = (k ≤ c.0) × (slice_get history c.0 ≡ Some c.1)

-- no slot is claimed
abbrev pub NoneClaimed : Board → Type 0
NoneClaimed r = (i number : ℕ) → i < length r.candidates → (at r.candidates i).slot ≢ ClaimedSlot number

-- What a closed turn leaves. The history begins with what the first pass has seen. Each event since the opening, with its position, is among
-- the calls of the first pass and the ended ones as often as it is there, so exactly once. Where nothing was open at the opening and all hands
-- are empty, nothing is open.
pub record Closed (a : Known) (r : Board) : Type 0 where
  pub program : r.program ≡ a.program
  pub legal : IsLegal r.program r.history
  pub seen : Starts r.history a.seen
  pub before : Starts r.history a.before
  pub counted : (f : Call → ℕ) → weigh f a.calls + weigh_all f a.ended ≡ weigh f (placed (length a.before) (drop (length a.before) r.history))
  pub once : (p : ℕ) → length a.before ≤ p → p < length r.history → weigh (at_place p) a.calls + weigh_all (at_place p) a.ended ≡ 1
  pub stands : All (StandsAt r.history (length a.before)) a.calls × All (All (StandsAt r.history (length a.before))) a.ended
  pub settled : open_of a.before ≡ [] → hand_of a.calls ≡ [] → All (λ c. hand_of c ≡ []) a.ended → (open_of r.history ≡ []) × NoneClaimed r
