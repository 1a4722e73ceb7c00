-- The systems that decide a cell of the box, the points that meet some more rows: whether a region meets it, whether a row holds on it,
-- whether it has admissible unknowns.
use Rattle.std.specs.Prelude.{ℕ, ◌+◌, ◌++◌, List, [], ◌∷◌, length, map}
use Rattle.mpc_space.specs.Matrix.{height}
use Rattle.mpc_linear.specs.declared.integers.RowInt.{RowInt}
use Rattle.mpc_rows.specs.declared.programs.Qp.{Qp}
use Rattle.mpc_rows.specs.declared.systems.Row.{Row}
use Rattle.mpc_rows.specs.LinearSystem.{LinearSystem}
use Rattle.mpc_rows.specs.LawRows.{whole_row, broken_row}
use Rattle.mpc_rows.specs.SetRuns.{box_rows, joint_rows}
use Rattle.mpc_systems.specs.Writing.{widened}

-- in so many unknowns, of which the coordinates of the box are the first: the box, the cell, and some more rows
abbrev pub cell_system : ℕ → List ℕ → List Row → List Row → LinearSystem
cell_system width counts cell more = record { width = width; rows = box_rows width counts ++ (cell ++ more) }

-- in the unknowns t: the box, the cell, and the rows of a law
unfoldable pub meet_system : Qp → List Row → List RowInt → LinearSystem
meet_system qp cell rows = cell_system (length qp.counts) qp.counts cell (map whole_row rows)

-- in the unknowns t: the box, the cell, and where a row fails
unfoldable pub hold_system : Qp → List Row → RowInt → LinearSystem
hold_system qp cell row = cell_system (length qp.counts) qp.counts cell (broken_row row ∷ [])

-- in the unknowns (t, z): the box, the cell, and the rows of the program
unfoldable pub joint_system : Qp → List Row → LinearSystem
joint_system qp cell = cell_system (length qp.counts + height qp.h) qp.counts (map (widened (height qp.h)) cell) (joint_rows qp)
