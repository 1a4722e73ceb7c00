use Rattle.std.proofs.Common.{◌-◌}
use Rattle.mpc_rows.specs.LawRows.{excess_form}
use Rattle.mpc_tree.specs.WholeRows.{all_dens, AreSides}
use Rattle.mpc_tree.proofs.rows.excesses.Given as goal

abbrev pub invariant-loop-place : goal.invariant-loop-place
invariant-loop-place l = AreSides (all_dens l.numbers l.unknowns) (excess_form l.qp l.law l.row_number) (l.place - 1) l.sides
