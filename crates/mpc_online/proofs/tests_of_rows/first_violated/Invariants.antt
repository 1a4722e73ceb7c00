use Rattle.std.proofs.Common.{◌+◌}
use Rattle.mpc_online.specs.Wholes.{entries_of}
use Rattle.mpc_online.proofs.RowTests.{AreMet}
use Rattle.mpc_online.specs.Evens.{sides_of}
use Rattle.mpc_online.proofs.tests_of_rows.first_violated.Given as goal

abbrev pub invariant-loop-index : goal.invariant-loop-index
invariant-loop-index l = AreMet l.qp (sides_of l.sides) (entries_of l.point) (l.index + 1)
