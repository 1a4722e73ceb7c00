-- The tableau as the code keeps it: a row for each basic variable, a column for each nonbasic one, stored row by row, and where each
-- variable stands.
use Rattle.std.specs.Prelude.{◌≡◌, ℕ, ◌+◌, ◌-◌, ◌*◌, ◌<◌, ◌^◌, Bool, true, false, cond, ◌&&◌, ltb, List, length, get_or, pos}
use Rattle.mpc_exact.specs.Rational.{ℚ, int}
use Rattle.mpc_space.specs.Total.{unit}
use Rattle.mpc_rows.specs.LinearSystem.{LinearSystem, height, entry}
use Rattle.mpc_rows.specs.Run.{Position, is_unknown}
use Rattle.mpc_runs.specs.declared.variables.Seat.{Seat}
use Rattle.mpc_runs.specs.declared.variables.Seat.TheVariants.{Row, Column}

abbrev pub seat_at : List Seat → ℕ → Seat
seat_at seats x = get_or seats x (Row 0)

abbrev pub in_row : Seat → Bool
in_row (Row r) = true
in_row (Column c) = false

-- the entry of row r and column c
abbrev pub cell_at : ℕ → List ℚ → ℕ → ℕ → ℚ
cell_at width entries r c = get_or entries (r * width + c) (int (pos 0))

-- the coefficient of a variable in the row of another, by where the two stand, where own is what the row of a nonbasic variable has
abbrev pub between : ℕ → List ℚ → ℚ → Seat → Seat → ℚ
between width entries own (Row r) (Row t) = int (pos 0)
between width entries own (Row r) (Column c) = cell_at width entries r c
between width entries own (Column c) seat = own

unfoldable pub position_of : ℕ → List Seat → List ℚ → Position
position_of width seats entries = record {
  is_basic = λ x. in_row (seat_at seats x);
  coefficient = λ x y. cond (ltb x (length seats) && ltb y (length seats)) (between width entries (unit x y) (seat_at seats x) (seat_at seats y)) (int (pos 0));
}

-- n variables stand in so many rows and columns, one in each
pub record IsSeated (height width n : ℕ) (seats : List Seat) : Type 0 where
  pub count : n ≡ width + height
  pub each : length seats ≡ n
  pub of_row : ℕ → ℕ
  pub of_column : ℕ → ℕ
  pub rows : (x r : ℕ) → x < n → seat_at seats x ≡ Row r → (r < height) × (of_row r ≡ x)
  pub columns : (y c : ℕ) → y < n → seat_at seats y ≡ Column c → (c < width) × (of_column c ≡ y)
  pub rows_full : (r : ℕ) → r < height → (of_row r < n) × (seat_at seats (of_row r) ≡ Row r)
  pub columns_full : (c : ℕ) → c < width → (of_column c < n) × (seat_at seats (of_column c) ≡ Column c)

-- the variable that stands in each column
abbrev pub variable_at : List ℕ → ℕ → ℕ
variable_at nonbasic c = get_or nonbasic c 0

-- these variables stand in the columns, one in each
pub record AreNonbasic (width : ℕ) (seats : List Seat) (nonbasic : List ℕ) : Type 0 where
  pub each : length nonbasic ≡ width
  pub at : (c : ℕ) → c < width → seat_at seats (variable_at nonbasic c) ≡ Column c

pub record HasShape (height width : ℕ) (entries : List ℚ) : Type 0 where
  pub size : length entries ≡ height * width
  pub fits : height * width < 2 ^ 64

pub record IsTable (s : LinearSystem) (n : ℕ) (seats : List Seat) (entries : List ℚ) : Type 0 where
  pub seated : IsSeated (height s) s.width n seats
  pub shape : HasShape (height s) s.width entries

-- ---- at first the unknowns stand in the columns and the sides in the rows
abbrev pub opening_seat : LinearSystem → ℕ → Seat
opening_seat s x = cond (is_unknown s x) (Column x) (Row (x - s.width))

pub record IsOpeningSeats (s : LinearSystem) (n : ℕ) (seats : List Seat) : Type 0 where
  pub each : length seats ≡ n
  pub at : (x : ℕ) → x < n → seat_at seats x ≡ opening_seat s x

pub record IsOpeningEntries (s : LinearSystem) (entries : List ℚ) : Type 0 where
  pub size : length entries ≡ height s * s.width
  pub at : (i j : ℕ) → i < height s → j < s.width → cell_at s.width entries i j ≡ entry s i j
