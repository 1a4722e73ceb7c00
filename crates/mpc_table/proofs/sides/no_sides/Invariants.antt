use Rattle.mpc_table.specs.OpenSplits.{AreSidesTo}
use Rattle.mpc_table.proofs.sides.no_sides.Given as goal

abbrev pub invariant-loop-place : goal.invariant-loop-place
invariant-loop-place l = AreSidesTo l.tree l.place l.sides.items l.pending.items
