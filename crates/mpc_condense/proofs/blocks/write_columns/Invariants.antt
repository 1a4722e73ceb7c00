use Rattle.std.proofs.Common.{◌+◌, ◌-◌}
use Rattle.mpc_space.specs.Matrix.{height, entry}
use Rattle.mpc_condense.specs.Blocks.{WritesBlock}
use Rattle.mpc_condense.proofs.blocks.write_columns.Given as goal

abbrev pub invariant-loop-column : goal.invariant-loop-column
invariant-loop-column l = WritesBlock l.fn.out l.out l.first (l.first + l.column) 0 (height l.matrix) (λ a b. entry l.matrix b (a - l.first))
