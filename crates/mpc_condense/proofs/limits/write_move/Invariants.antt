use Rattle.std.proofs.Common.{◌+◌, ◌-◌}
use Rattle.mpc_space.specs.Vector.{coordinate}
use Rattle.mpc_condense.specs.Blocks.{WritesBlock}
use Rattle.mpc_condense.proofs.limits.write_move.Given as goal

abbrev pub invariant-loop-place : goal.invariant-loop-place
invariant-loop-place l = WritesBlock l.fn.out l.out l.at_row (l.at_row + 1) l.first (l.first + l.place) (λ _ b. coordinate l.row.u (b - l.first))
