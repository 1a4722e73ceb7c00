use Rattle.std.proofs.Common.{ℕ, ◌<◌, List, [], get_or}
use Rattle.mpc_exact.specs.Rational.{ℚ}
use Rattle.mpc_space.specs.Vector.{dot}
use Rattle.mpc_bordered.specs.Stages.{ChangeFits}
use Rattle.mpc_online.specs.Openings.{AreCountsTo}
use Rattle.mpc_online.proofs.opening.changes_fit.Given as goal

abbrev pub invariant-loop-index : goal.invariant-loop-index
invariant-loop-index l = (c : List ℚ) → AreCountsTo l.most c → (i : ℕ) → i < l.index → ChangeFits (dot (get_or l.old.rows i []) c) (dot (get_or l.new.rows i []) c)
