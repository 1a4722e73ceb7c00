use Rattle.std.proofs.Common.{◌≡◌, vec_len}
use Rattle.mpc_check.specs.Borders.{AreFormed}
use Rattle.mpc_check.proofs.borders.form_rows.Given as goal

abbrev pub invariant-loop-at_row : goal.invariant-loop-at_row
invariant-loop-at_row l = record {
  formed : AreFormed l.qp l.law l.rows.items;
  so_many : vec_len l.rows ≡ l.at_row;
}
