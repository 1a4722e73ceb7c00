use Rattle.std.proofs.Common.{◌≡◌, ◌+◌, length}
use Rattle.mpc_check.specs.Borders.{AreBordersFrom}
use Rattle.mpc_check.proofs.borders.form_stretch.Given as goal

abbrev pub invariant-loop-place : goal.invariant-loop-place
invariant-loop-place l = record {
  formed : AreBordersFrom l.qp l.laws l.fn.stretch.from l.borders.items;
  so_many : l.fn.stretch.from + length l.borders.items ≡ l.place;
}
