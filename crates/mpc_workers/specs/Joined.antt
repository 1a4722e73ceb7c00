-- Passes that are taken back.
use Rattle.std.specs.Prelude.{◌≡◌, ℕ, ◌+◌, ◌<◌, ◌⊎◌, List, [], length, true, false, All, slice_index_or}
use Rattle.mpc_rows.specs.declared.programs.Qp.{Qp}
use Rattle.mpc_claim.specs.declared.events.Event.{Event}
use Rattle.mpc_claim.specs.Board.{Board}
use Rattle.mpc_claim.specs.History.{has_drop, IsLegal, IsFinished, EndsWide}
use Rattle.mpc_claim.specs.OpenClaims.{open_of}
use Rattle.mpc_turn.specs.Views.{Call, Starts, hand_of}
use Rattle.mpc_turn.specs.Known.{Known, TurnId, NoneClaimed}
use Rattle.mpc_workers.specs.declared.seats.Post.{Post}
use Rattle.mpc_workers.specs.Holding.{HoldOneSet}
use Rattle.mpc_workers.specs.Calls.{GivesNoneUp, TakesTurns, Rise}
use Rattle.mpc_workers.specs.Posts.{HasEnd}
use Rattle.mpc_workers.specs.Seats.{IsWorker}

-- an ended pass has an empty hand, and its calls have workers of the pool and rising positions, each set ended before the next is claimed
pub record IsEnded (most : ℕ) (calls : List Call) : Type 0 where
  pub empty : hand_of calls ≡ []
  pub workers : All (λ (c : Call). IsWorker most c.1.worker) calls
  pub turns : TakesTurns calls
  pub rise : Rise 0 calls

-- the ended passes are those of the workers from the last one down, in order
abbrev pub AreCountedDown : ℕ → List (List Call) → Type 0
AreCountedDown most ended = (i : ℕ) (d : List Call) → i < length ended → All (λ (c : Call). c.1.worker + i ≡ most) (slice_index_or ended i d)

-- the first pass of a program, into which those of the workers are joined from the last one on, with so many still lent
pub record Joins (turn : TurnId) (qp : Qp) (most left : ℕ) (k : Known) : Type 0 where
  pub turn_is : k.turn ≡ turn
  pub first_is : k.first ≡ true
  pub lent_is : k.lent ≡ left
  pub program : k.program ≡ qp
  pub calls_none : k.calls ≡ []
  pub before_none : k.before ≡ []
  pub ended_all : All (IsEnded most) k.ended
  pub counted : length k.ended + left ≡ most
  pub in_order : AreCountedDown most k.ended

-- the end was seen
pub record SeesEnd (qp : Qp) (k : Known) : Type 0 where
  pub past : List Event
  pub begins : Starts k.seen past
  pub end : HasEnd qp past

-- the post of the first pass: unless it says so no ended pass gave a set up, and where it says so the end was seen
pub record IsJoining (most left : ℕ) (turn : TurnId) (qp : Qp) (post : Post) : Type 0 where
  pub joins : Joins turn qp most left post.pass
  pub kept : post.gave_up ≡ false → All GivesNoneUp post.pass.ended
  pub seen : post.saw_end ≡ true → SeesEnd qp post.pass

-- the registry before its last claim: no set is open or given up, and the history has its end
pub record IsLeft (qp : Qp) (most : ℕ) (r : Board) : Type 0 where
  pub program : r.program ≡ qp
  pub legal : IsLegal qp r.history
  pub none_open : open_of r.history ≡ []
  pub none_claimed : NoneClaimed r
  pub no_drop : has_drop r.history ≡ false
  pub workers : All (λ (e : Event). IsWorker most e.worker) r.history
  pub one_each : HoldOneSet r.history
  pub ended : IsFinished qp r.history ⊎ EndsWide qp r.history
