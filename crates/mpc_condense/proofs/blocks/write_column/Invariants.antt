use Rattle.std.proofs.Common.{◌+◌, ◌-◌}
use Rattle.mpc_space.specs.Matrix.{entry}
use Rattle.mpc_condense.specs.Blocks.{WritesBlock}
use Rattle.mpc_condense.proofs.blocks.write_column.Given as goal

abbrev pub invariant-loop-at_row : goal.invariant-loop-at_row
invariant-loop-at_row l = WritesBlock l.fn.out l.out (l.first + l.column) (l.first + l.column + 1) 0 l.at_row (λ a b. entry l.matrix b (a - l.first))
