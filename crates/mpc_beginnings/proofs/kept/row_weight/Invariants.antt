use Rattle.std.proofs.Common.{◌≡◌}
use Rattle.mpc_scaled.specs.Scaled.{whole_cell}
use Rattle.mpc_beginnings.specs.RunLists.{weight_of}
use Rattle.mpc_beginnings.specs.Kept.{row_weight}
use Rattle.mpc_beginnings.proofs.kept.row_weight.Given as goal

abbrev pub invariant-loop-unknown : goal.invariant-loop-unknown
invariant-loop-unknown l = l.sum ≡ row_weight (weight_of l.lists l.product) (whole_cell l.system.width l.numbers.a.now l.row) l.unknown
