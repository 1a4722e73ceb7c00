-- The system that a C caller sends, and the answer that it takes.
use Rattle.std.specs.Prelude.{◌≡◌, ℕ, ◌+◌, ◌*◌, ◌≤◌, List, map, length, All, get_or, false}
use Rattle.std.specs.List.{range_with_len, between}
use Rattle.mpc_exact.specs.Rational.{ℚ}
use Rattle.mpc_bench.specs.declared.parts.Parts.{Parts}
use Rattle.mpc_bench.specs.Parts.{value_of, IsReadable}
use Rattle.mpc_rows.specs.declared.systems.Row.{Row}
use Rattle.mpc_rows.specs.LinearSystem.{LinearSystem}
use Rattle.mpc_bench.specs.declared.systems.Side.{Side}
use Rattle.mpc_bench.specs.declared.systems.Pair.{Pair}

-- what stands behind the last side
abbrev pub no_parts : Parts
no_parts = record { negative = false; num_high = 0; num_low = 0; den_high = 0; den_low = 0 }

abbrev pub no_side : Side
no_side = record { bound = no_parts; strict = false }

abbrev pub row_of : List Parts → Side → Row
row_of coefficients side = record { a = map value_of coefficients; b = value_of side.bound; strict = side.strict }

-- row i, counted from 0: its coefficients lie behind those of the rows before
abbrev pub sent_row : ℕ → List Parts → List Side → ℕ → Row
sent_row width coefficients sides i = row_of (between (i * width) (i * width + width) coefficients) (get_or sides i no_side)

abbrev pub sent_system : ℕ → List Parts → List Side → LinearSystem
sent_system width coefficients sides = record {
  width = width;
  rows = map (sent_row width coefficients sides) (range_with_len 0 (length sides));
}

-- every part is a fraction, and there is a coefficient for each unknown of each row
pub record IsReadableSystem (width : ℕ) (coefficients : List Parts) (sides : List Side) : Type 0 where
  pub shape : length coefficients ≡ length sides * width
  pub left_sides : All IsReadable coefficients
  pub right_sides : All (λ s. IsReadable s.bound) sides

-- every part of one row is a fraction
pub record IsReadableRow (coefficients : List Parts) (side : Side) : Type 0 where
  pub left_side : All IsReadable coefficients
  pub right_side : IsReadable side.bound

-- the two fractions of a pair
abbrev pub pair_of : Pair → ℚ × ℚ
pair_of p = (value_of p.first, value_of p.second)

abbrev pub no_pair : Pair
no_pair = record { first = no_parts; second = no_parts }

-- a readable system, with room for a pair for each unknown and for a multiplier for each row
pub record IsSent (width : ℕ) (coefficients : List Parts) (sides : List Side) (point : List Pair) (multipliers : List Parts) : Type 0 where
  pub system : IsReadableSystem width coefficients sides
  pub point_size : length point ≡ width
  pub multipliers_size : length multipliers ≡ length sides

-- a readable system of at least so many rows
pub record IsSentFrom (width : ℕ) (coefficients : List Parts) (sides : List Side) (first : ℕ) : Type 0 where
  pub system : IsReadableSystem width coefficients sides
  pub first_rows : first ≤ length sides
