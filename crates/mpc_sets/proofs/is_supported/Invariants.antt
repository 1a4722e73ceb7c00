use Rattle.std.proofs.Common.{◌-◌, Contains}
use Rattle.mpc_sets.specs.RowSet.{without_row}
use Rattle.mpc_sets.proofs.Search.{HoldsOfFirst}
use Rattle.mpc_sets.proofs.is_supported.Given as goal

abbrev pub invariant-loop-position : goal.invariant-loop-position
invariant-loop-position l = HoldsOfFirst (λ row. Contains l.grown (without_row row l.joined)) l.beginning (l.position - 1)
