use Rattle.std.proofs.Common.{◌+◌}
use Rattle.mpc_online.specs.Wholes.{first_of}
use Rattle.mpc_online.specs.Evens.{even_sides}
use Rattle.mpc_online.proofs.RowTests.{AreMet}
use Rattle.mpc_online.proofs.tests_of_rows.first_in_wholes.Given as goal

abbrev pub invariant-loop-index : goal.invariant-loop-index
invariant-loop-index l = AreMet l.qp (even_sides l.sides) (first_of l.numbers l.count) (l.index + 1)
