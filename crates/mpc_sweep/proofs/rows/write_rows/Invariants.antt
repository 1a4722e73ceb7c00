use Rattle.std.proofs.Common.{◌-◌}
use Rattle.mpc_sweep.specs.Numbers.{told_columns}
use Rattle.mpc_sweep.specs.Steps.{AreRows}
use Rattle.mpc_sweep.proofs.rows.write_rows.Given as goal

abbrev pub invariant-loop-at_row : goal.invariant-loop-at_row
invariant-loop-at_row l = AreRows l.most (told_columns l.from) l.from.den l.taken l.from.numbers.items l.pivot_place l.first (l.from.columns - l.first) l.at_row l.numbers
