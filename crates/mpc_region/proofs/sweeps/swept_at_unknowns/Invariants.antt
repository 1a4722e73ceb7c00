use Rattle.std.specs.List.{range_with_len}
use Rattle.mpc_sweep.specs.Numbers.{IsSwept}
use Rattle.mpc_region.specs.Shared.{shared_entry}
use Rattle.mpc_region.specs.Sweeps.{rights, all_columns}
use Rattle.mpc_region.proofs.sweeps.swept_at_unknowns.Given as goal

abbrev pub invariant-loop-pivot : goal.invariant-loop-pivot
invariant-loop-pivot l = IsSwept (shared_entry l.qp) (range_with_len 0 l.pivot) (rights l.qp) (all_columns l.qp) l.pivot l.table
