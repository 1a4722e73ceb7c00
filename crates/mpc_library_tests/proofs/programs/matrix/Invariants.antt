use Rattle.std.proofs.Common.{length}
use Rattle.mpc_linear.specs.Shape.{HasShape}
use Rattle.mpc_library_tests.proofs.programs.matrix.Given as goal

abbrev pub invariant-loop-row : goal.invariant-loop-row
invariant-loop-row l = HasShape l.matrix (length l.rows) l.cols
