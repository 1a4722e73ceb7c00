use Rattle.std.proofs.Common.{ℕ, ◌<◌}
use Rattle.mpc_frac.specs.Fits.{FitsFrac}
use Rattle.mpc_online.specs.Turns.{IsFalling, quotient_at}
use Rattle.mpc_online.proofs.Shortest.{IsShortestBelow}
use Rattle.mpc_online.proofs.turns.shortest.Given as goal

abbrev pub invariant-loop-place : goal.invariant-loop-place
invariant-loop-place l = record {
  best : IsShortestBelow l.multipliers l.changes l.place l.best;
  fit : (j : ℕ) → j < l.place → IsFalling l.changes j → FitsFrac (quotient_at l.multipliers l.changes j);
}
