-- What a worker has at each program: a post with a pass of the program's turn.
use Rattle.std.specs.Prelude.{◌≡◌, ◌≢◌, ℕ, ◌+◌, ◌-◌, ◌<◌, ◌⊎◌, List, [], ◌∷◌, ◌++◌, length, true, false, Result, Ok, Err, All, IfSome, nat_lt, if◌then◌else◌, slice_index_or}
use Rattle.mpc_frac.specs.declared.NoMemory.{NoMemory}
use Rattle.mpc_rows.specs.declared.programs.Qp.{Qp}
use Rattle.mpc_claim.specs.declared.events.Event.{Event}
use Rattle.mpc_claim.specs.declared.tickets.Claimed.{Claimed}
use Rattle.mpc_claim.specs.declared.tickets.Claimed.TheVariants.{Job, Idle, Finished, Stopped}
use Rattle.mpc_claim.specs.declared.tickets.Ticket.{Ticket}
use Rattle.mpc_claim.specs.History.{has_drop, IsFinished, IsIdle, EndsWide}
use Rattle.mpc_turn.specs.Views.{Call, hand_of}
use Rattle.mpc_turn.specs.Known.{Known, TurnId, ClaimedAs}
use Rattle.mpc_workers.specs.declared.seats.Opened.{Opened}
use Rattle.mpc_workers.specs.declared.seats.Post.{Post}
use Rattle.mpc_workers.specs.declared.working.Worker.{Worker}
use Rattle.mpc_workers.specs.Calls.{GivesNoneUp, TakesTurns}

-- the history has come to an end: it is finished, a set was given up, or a level ended with a wide verdict
abbrev pub HasEnd : Qp → List Event → Type 0
HasEnd qp past = IsFinished qp past ⊎ ((has_drop past ≡ true) ⊎ EndsWide qp past)

-- there is nothing to claim: all sets of the level are claimed, or the program has come to its end
abbrev pub HasNothing : Qp → List Event → Type 0
HasNothing qp past = IsIdle qp past ⊎ HasEnd qp past

-- a pass of this worker with an empty hand, whose calls are the worker's, each set ended before the next is claimed
pub record IsPassOf (worker : ℕ) (turn : TurnId) (qp : Qp) (p : Known) : Type 0 where
  pub turn_is : p.turn ≡ turn
  pub other : p.first ≡ false
  pub empty : hand_of p.calls ≡ []
  pub alone : p.ended ≡ []
  pub program : p.program ≡ qp
  pub worker_is : p.worker ≡ worker
  pub own : All (λ (c : Call). c.1.worker ≡ worker) p.calls
  pub turns : TakesTurns p.calls

-- a post of this worker between two sets: unless it says so it has given none up, and where it says so it has seen the program's end
pub record IsPost (worker : ℕ) (turn : TurnId) (qp : Qp) (post : Post) : Type 0 where
  pub pass : IsPassOf worker turn qp post.pass
  pub kept : post.gave_up ≡ false → GivesNoneUp post.pass.calls
  pub ended : post.saw_end ≡ true → HasEnd qp post.pass.seen

-- a post that was between two sets and then claimed, with this answer
pub record IsAnswered (worker : ℕ) (turn : TurnId) (qp : Qp) (answer : Result Claimed NoMemory) (post : Post) : Type 0 where
  pub before : Known
  pub pass : IsPassOf worker turn qp before
  pub kept : post.gave_up ≡ false → GivesNoneUp before.calls
  pub claimed : ClaimedAs before answer post.pass

-- the answer of a claim gives no set out
abbrev pub GivesNoJob : Result Claimed NoMemory → Type 0
GivesNoJob (Ok (Job t)) = ⊥
GivesNoJob (Ok Idle) = Unit {0}
GivesNoJob (Ok Finished) = Unit {0}
GivesNoJob (Ok Stopped) = Unit {0}
GivesNoJob (Err e) = Unit {0}

-- a post with this ticket's set in hand
pub record IsBusy (worker : ℕ) (turn : TurnId) (qp : Qp) (ticket : Ticket) (post : Post) : Type 0 where
  pub answered : IsAnswered worker turn qp (Ok (Job ticket)) post
  pub working : post.saw_end ≡ false

-- ---- lists with an item for each program
-- of each program, with its turn and a post
pub record AtEach (P : TurnId → Qp → Post → Type 0) (turns : List TurnId) (programs : List Qp) (posts : List Post) : Type 0 where
  pub turns_are : length turns ≡ length programs
  pub posts_are : length posts ≡ length programs
  pub each : (k : ℕ) (t : TurnId) (q : Qp) (p : Post) → k < length programs → P (slice_index_or turns k t) (slice_index_or programs k q) (slice_index_or posts k p)

-- the first pass of a turn that was made over a new registry, with so many lent
abbrev pub opening : TurnId → Qp → ℕ → Known
opening turn qp lent = record { turn = turn; first = true; lent = lent; program = qp; before = []; worker = 0; seen = []; calls = []; ended = [] }

-- the post with this pass, of which nothing is said
abbrev pub post_with : Known → Post
post_with pass = record { pass = pass; gave_up = false; saw_end = false }

abbrev pub IsOpening : ℕ → TurnId → Qp → Post → Type 0
IsOpening lent turn qp post = post ≡ post_with (opening turn qp lent)

-- one turn more, over a new registry of this program, and its first pass
pub record OpensOne (qp : Qp) (old new : Opened) : Type 0 where
  pub turn : TurnId
  pub first : Post
  pub turns : new.turns.items ≡ old.turns.items ++ turn ∷ []
  pub firsts : new.firsts.items ≡ old.firsts.items ++ first ∷ []
  pub opening_is : IsOpening 0 turn qp first

-- ---- from a worker's last program on and round
-- the number that comes so many places after this one, of so many and round
abbrev pub after : ℕ → ℕ → ℕ → ℕ
after from steps count = if nat_lt steps (count - from) then from + steps else steps - (count - from)

-- one of the programs, if there are any, with an examiner of that one or none
pub record IsAtProgram (programs : List Qp) (worker : Worker) : Type 0 where
  pub within : 0 < length programs → worker.program < length programs
  pub examiner : IfSome worker.examiner (λ (q : Qp). q ≡ slice_index_or programs worker.program q)

-- so many programs have nothing to claim, from this one on and round
abbrev pub FindNothing : List Qp → List Post → ℕ → ℕ → Type 0
FindNothing programs posts from steps = (i : ℕ) (q : Qp) (p : Post) → i < steps → HasNothing (slice_index_or programs (after from i (length programs)) q) (slice_index_or posts (after from i (length programs)) p).pass.seen

-- of the programs from the one on and round, all before the other have nothing to claim
pub record ComesFirst (programs : List Qp) (posts : List Post) (from k : ℕ) : Type 0 where
  pub steps : ℕ
  pub within : steps < length programs
  pub place_is : k ≡ after from steps (length programs)
  pub nothing : FindNothing programs posts from steps

-- no call is made but at this program
abbrev pub CallsOnlyAt : ℕ → List Post → List Post → Type 0
CallsOnlyAt k old new = (j : ℕ) (p : Post) → j ≢ k → (slice_index_or new j p).pass.calls ≡ (slice_index_or old j p).pass.calls
