-- Matrices that differ in one entry, and the matrix of zeros.
use Rattle.std.specs.Prelude.{ℕ, [], pos, slice_index_or, slice_set, replicate}
use Rattle.mpc_exact.specs.Rational.{ℚ, int}
use Rattle.mpc_space.specs.Matrix.{RationalMatrix}

-- the matrix with v in row i and column j, counted from 0, and every other entry as it was
abbrev pub with_entry : RationalMatrix → ℕ → ℕ → ℚ → RationalMatrix
with_entry m i j v = record { rows = slice_set m.rows i (slice_set (slice_index_or m.rows i []) j v); columns = m.columns }

-- so many rows of so many zeros
abbrev pub zero_matrix : ℕ → ℕ → RationalMatrix
zero_matrix rows columns = record { rows = replicate rows (replicate columns (int (pos 0))); columns = columns }
