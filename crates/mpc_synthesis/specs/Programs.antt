-- The convex program of a plant, with all candidates decided.
use Rattle.std.specs.Prelude.{◌≡◌, ℕ, false, List}
use Rattle.mpc_plant.specs.declared.plants.Plant.{Plant}
use Rattle.mpc_rows.specs.declared.programs.Qp.{Qp}
use Rattle.mpc_rows.specs.declared.verdicts.Verdict.{Verdict}
use Rattle.mpc_rows.specs.Candidates.{IsCandidate}
use Rattle.mpc_rows.specs.Verdicts.{IsRight}
use Rattle.mpc_claim.specs.declared.events.Phase.TheVariants.{Finished}
use Rattle.mpc_claim.specs.Board.{Board, is_wide}
use Rattle.mpc_claim.specs.History.{IsFinished}
use Rattle.mpc_condense.specs.Convex.{HasProgram, PivotsPass}
use Rattle.mpc_synthesis.specs.Crews.{HasEnded}

-- each candidate has a right verdict, and none meets a number that is too wide
abbrev pub IsDecided : Qp → Type 0
IsDecided qp = (s : List ℕ) → IsCandidate qp s → (verdict : Verdict) × IsRight qp s verdict × (is_wide verdict ≡ false)

-- the plant's program, with all its candidates decided
pub record HasVerdicts (plant : Plant) (qp : Qp) : Type 0 where
  pub has_program : HasProgram plant qp
  pub pivots : PivotsPass qp
  pub decided : IsDecided qp

-- so many workers have decided all candidates of the plant's program
pub record IsDecidedBy (workers : ℕ) (plant : Plant) (board : Board) : Type 0 where
  pub qp : Qp
  pub verdicts : HasVerdicts plant qp
  pub done : HasEnded workers qp board
  pub phase : board.phase ≡ Finished
  pub finished : IsFinished qp board.history
