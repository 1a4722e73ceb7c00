-- The workers who decide the candidates of a program, and what they leave.
use Rattle.std.specs.Prelude.{◌≡◌, ℕ, ◌⊎◌, All}
use Rattle.mpc_rows.specs.declared.programs.Qp.{Qp}
use Rattle.mpc_claim.specs.declared.events.Event.{Event}
use Rattle.mpc_claim.specs.declared.events.Phase.TheVariants.{Finished, Stopped}
use Rattle.mpc_claim.specs.Board.{Board}
use Rattle.mpc_claim.specs.History.{IsLegal, IsFinished, EndsWide}
use Rattle.mpc_workers.specs.Holding.{HoldOneSet}
use Rattle.mpc_workers.specs.Alone.{AreTurns}
use Rattle.mpc_workers.specs.Seats.{IsWorker}

-- The registry of this program has come to its end, by the workers from 1 to `workers`, each with one set at a time: all candidates are settled,
-- or a level ended with a wide verdict. A worker who is alone delivers each set right after its claim.
pub record HasEnded (workers : ℕ) (qp : Qp) (board : Board) : Type 0 where
  pub program : board.program ≡ qp
  pub legal : IsLegal qp board.history
  pub ended : ((board.phase ≡ Finished) × IsFinished qp board.history) ⊎ ((board.phase ≡ Stopped) × EndsWide qp board.history)
  pub by_workers : All (λ (e : Event). IsWorker workers e.worker) board.history
  pub one_each : HoldOneSet board.history
  pub turns : workers ≡ 1 → AreTurns board.history
