use Rattle.std.proofs.Common.{All}
use Rattle.mpc_rows.specs.Candidates.{IsCandidate}
use Rattle.mpc_claim.proofs.levels.sets_between.Given as goal

abbrev pub invariant-loop-place : goal.invariant-loop-place
invariant-loop-place l = All (IsCandidate l._qp) l.sets.items
