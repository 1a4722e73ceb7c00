-- Which parts make a plant: sizes, shapes, symmetric weights and a grid with positive steps.
use Rattle.std.specs.Prelude.{◌≡◌, ℕ, ◌+◌, ◌*◌, ◌≤◌, List, length, All, nat_le, if◌then◌else◌}
use Rattle.mpc_exact.specs.Rational.{ℚ, IsPositive}
use Rattle.mpc_space.specs.Vector.{IsSymmetric}
use Rattle.mpc_space.specs.Matrix.{RationalMatrix}
use Rattle.mpc_linear.specs.Shape.{HasShape}
use Rattle.mpc_plant.specs.declared.lists.PlantRow.{PlantRow}
use Rattle.mpc_plant.specs.declared.lists.Coordinate.{Coordinate}

-- a number from low to high
pub record IsFromTo (low high k : ℕ) : Type 0 where
  pub from_low : low ≤ k
  pub to_high : k ≤ high

-- a weight on vectors of so many entries: a square, symmetric matrix
pub record IsWeight (m : RationalMatrix) (size : ℕ) : Type 0 where
  pub shape : HasShape m size size
  pub symmetric : IsSymmetric m.rows

-- a row on states of n entries and moves of p entries
pub record FitsRow (n p : ℕ) (row : PlantRow) : Type 0 where
  pub x_size : length row.x ≡ n
  pub u_size : length row.u ≡ p

-- the most steps that a coordinate of a grid may have
abbrev pub greatest_count : ℕ
greatest_count = 1000000

-- a coordinate of a grid: its step is positive, and its count within the limit
pub record IsCoordinate (axis : Coordinate) : Type 0 where
  pub step_positive : IsPositive axis.step
  pub count_small : axis.count ≤ greatest_count

-- the most rows that a program of so many unknowns may have
abbrev pub row_limit : ℕ → ℕ
row_limit unknowns = if nat_le unknowns 4 then 60 else 40

pub record IsPlant (n p horizon : ℕ) (a b q r last : RationalMatrix) (drift xgoal ugoal : List ℚ) (rows terminal : List PlantRow) (grid : List Coordinate) : Type 0 where
  pub states : IsFromTo 1 4 n
  pub inputs : IsFromTo 1 3 p
  pub steps : IsFromTo 1 6 horizon
  pub moves_few : p * horizon ≤ 6
  pub a_shape : HasShape a n n
  pub b_shape : HasShape b n p
  pub q_weight : IsWeight q n
  pub r_weight : IsWeight r p
  pub last_weight : IsWeight last n
  pub drift_size : length drift ≡ n
  pub xgoal_size : length xgoal ≡ n
  pub ugoal_size : length ugoal ≡ p
  pub rows_few : horizon * length rows + length terminal ≤ row_limit (p * horizon)
  pub rows_fit : All (FitsRow n p) rows
  pub terminal_fits : All (FitsRow n 0) terminal
  pub grid_size : length grid ≡ n
  pub grid_ok : All IsCoordinate grid
