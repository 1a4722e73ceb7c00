use Rattle.std.proofs.Common.{◌≡◌}
use Rattle.mpc_space.specs.Matrix.{height}
use Rattle.mpc_library_tests.proofs.stated_systems.matrix.Given as goal

abbrev pub invariant-loop-row : goal.invariant-loop-row
invariant-loop-row l = (height l.matrix ≡ l.rows) × (l.matrix.columns ≡ l.cols)

abbrev pub invariant-loop-column : goal.invariant-loop-column
invariant-loop-column l = (height l.matrix ≡ l.rows) × (l.matrix.columns ≡ l.cols)
