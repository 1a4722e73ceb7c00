use Rattle.mpc_sets.proofs.Levels.{IsLevelUpTo}
use Rattle.mpc_sets.proofs.is_level.Given as goal

abbrev pub invariant-loop-i : goal.invariant-loop-i
invariant-loop-i l = IsLevelUpTo l.sets l.i
