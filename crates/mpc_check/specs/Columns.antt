-- The columns of a leaf's rows, which are added up with the multipliers of a certificate.
use Rattle.std.specs.Prelude.{ℕ, ◌<◌, List, map}
use Rattle.mpc_exact.specs.Rational.{ℚ}
use Rattle.mpc_space.specs.Vector.{coordinate}
use Rattle.mpc_rows.specs.declared.systems.Row.{Row}
use Rattle.mpc_rows.specs.LinearSystem.{LinearSystem}
use Rattle.mpc_check.specs.declared.whole_sums.Column.{Column}
use Rattle.mpc_check.specs.declared.whole_sums.Column.TheVariants.{Unknown, Sides}
use Rattle.mpc_check.specs.Picks.{picked_rows}

-- the number of a row in a column
abbrev pub number_in : Column → Row → ℚ
number_in (Unknown j) r = coordinate r.a j
number_in Sides r = r.b

-- one of so many unknowns, or the right sides
abbrev pub IsColumnOf : ℕ → Column → Type 0
IsColumnOf width (Unknown j) = j < width
IsColumnOf width Sides = Unit {0}

-- those of the rows that a certificate names
abbrev pub picked_column : Column → LinearSystem → List (ℕ × ℚ) → List ℚ
picked_column column s cert = map (number_in column) (picked_rows s.rows cert)
