-- The seats of the pool, and what the pool leaves.
use Rattle.std.specs.Prelude.{◌≡◌, ◌≢◌, ℕ, ◌+◌, ◌<◌, ◌≤◌, ◌⊎◌, List, length, false, All, slice_index_or}
use Rattle.mpc_rows.specs.declared.programs.Qp.{Qp}
use Rattle.mpc_claim.specs.declared.events.Event.{Event}
use Rattle.mpc_claim.specs.declared.events.Phase.TheVariants.{Finished, Stopped}
use Rattle.mpc_claim.specs.declared.candidates.Slot.TheVariants.{Dropped}
use Rattle.mpc_claim.specs.Board.{Board, at}
use Rattle.mpc_claim.specs.History.{has_drop, IsLegal, IsFinished, EndsWide}
use Rattle.mpc_turn.specs.Known.{TurnId, NoneClaimed}
use Rattle.mpc_workers.specs.declared.seats.Seat.{Seat}
use Rattle.mpc_workers.specs.Holding.{HoldOneSet}
use Rattle.mpc_workers.specs.Posts.{AtEach, IsPost}

-- workers are numbered from 1
abbrev pub IsWorker : ℕ → ℕ → Type 0
IsWorker most worker = (0 < worker) × (worker ≤ most)

-- a worker of the pool with its posts, one a program
pub record IsSeat (turns : List TurnId) (programs : List Qp) (most : ℕ) (s : Seat) : Type 0 where
  pub worker : IsWorker most s.worker
  pub posts : AtEach (IsPost s.worker) turns programs s.posts.items

-- the seats have the workers from 1 on, in order
abbrev pub AreNumbered : List Seat → Type 0
AreNumbered seats = (i : ℕ) (d : Seat) → i < length seats → (slice_index_or seats i d).worker ≡ i + 1

-- the seats keep their workers
pub record KeepWorkers (old new : List Seat) : Type 0 where
  pub len : length new ≡ length old
  pub each : (i : ℕ) (d : Seat) → i < length old → (slice_index_or new i d).worker ≡ (slice_index_or old i d).worker

-- no slot is given up
abbrev pub NoneDropped : Board → Type 0
NoneDropped r = (i : ℕ) → i < length r.candidates → (at r.candidates i).slot ≢ Dropped

-- The registry of this program has come to its end, by the workers 1 to `most`, each with one set at a time: all candidates are settled, or a
-- level ended with a wide verdict. No slot is claimed or given up.
pub record IsDone (qp : Qp) (most : ℕ) (board : Board) : Type 0 where
  pub program : board.program ≡ qp
  pub legal : IsLegal qp board.history
  pub ended : ((board.phase ≡ Finished) × IsFinished qp board.history) ⊎ ((board.phase ≡ Stopped) × EndsWide qp board.history)
  pub workers : All (λ (e : Event). IsWorker most e.worker) board.history
  pub one_each : HoldOneSet board.history
  pub none_claimed : NoneClaimed board
  pub none_dropped : NoneDropped board
  pub no_drop : has_drop board.history ≡ false
