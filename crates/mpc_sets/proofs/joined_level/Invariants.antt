use Rattle.mpc_sets.specs.NextLevel.{HoldsNext, ExtendsOneOf}
use Rattle.mpc_sets.proofs.joined_level.Given as goal

abbrev pub invariant-loop-place : goal.invariant-loop-place
invariant-loop-place l = HoldsNext (ExtendsOneOf l.grown l.place) l.grown l.rows l.level.items
