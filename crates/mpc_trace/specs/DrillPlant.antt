-- The plants of the drills: one for each number.
use Rattle.std.specs.Prelude.{◌≡◌, ℕ, ◌/◌, ◌%◌, List, [], ◌∷◌, map, ℤ, pos, negsuc, ◌+ℤ◌, ◌-ℤ◌}
use Rattle.mpc_exact.specs.Rational.{ℚ, int}
use Rattle.mpc_space.specs.Matrix.{RationalMatrix}
use Rattle.mpc_plant.specs.declared.lists.PlantRow.{PlantRow}
use Rattle.mpc_plant.specs.declared.lists.Coordinate.{Coordinate}
use Rattle.mpc_plant.specs.declared.plants.Plant.{Plant}

-- ---- whole numbers as entries
abbrev pub vector : List ℤ → List ℚ
vector zs = map int zs

-- the matrix of so many columns with these rows
abbrev pub matrix : ℕ → List (List ℤ) → RationalMatrix
matrix columns rows = record { rows = map vector rows; columns = columns }

-- the row x·state + u·move <= max
abbrev pub row_of : List ℤ → List ℤ → ℤ → PlantRow
row_of x u max = record { x = vector x; u = vector u; max = int max }

-- ---- the digits of a drill's number: of it an eighth, a third of that, and two halves of that
abbrev pub bound_digit : ℕ → ℕ
bound_digit number = number % 8

abbrev pub turn_digit : ℕ → ℕ
turn_digit number = number / 8 % 3

abbrev pub input_digit : ℕ → ℕ
input_digit number = number / 24 % 2

abbrev pub weight_digit : ℕ → ℕ
weight_digit number = number / 48 % 2

-- ---- the parts of a drill's plant
-- the greatest input, whichever its sign is: from -1, which none has, to 6
abbrev pub input_bound : ℕ → ℤ
input_bound number = pos (bound_digit number) -ℤ pos 1

-- the second coordinate's rate by the first: -1, 0 or 1
abbrev pub turn_of : ℕ → ℤ
turn_of number = pos (turn_digit number) -ℤ pos 1

-- the input is at most the bound in size, the second coordinate at most 3
abbrev pub stage_rows : ℤ → List PlantRow
stage_rows bound = row_of (pos 0 ∷ pos 0 ∷ []) (pos 1 ∷ []) bound
    ∷ row_of (pos 0 ∷ pos 0 ∷ []) (negsuc 0 ∷ []) bound
    ∷ row_of (pos 0 ∷ pos 1 ∷ []) (pos 0 ∷ []) (pos 3)
    ∷ row_of (pos 0 ∷ negsuc 0 ∷ []) (pos 0 ∷ []) (pos 3)
    ∷ []

-- at the end the first coordinate is at most 4 in size, the second at most 2, and their sum at most 5
abbrev pub end_rows : List PlantRow
end_rows = row_of (pos 1 ∷ pos 0 ∷ []) [] (pos 4)
    ∷ row_of (negsuc 0 ∷ pos 0 ∷ []) [] (pos 4)
    ∷ row_of (pos 0 ∷ pos 1 ∷ []) [] (pos 2)
    ∷ row_of (pos 0 ∷ negsuc 0 ∷ []) [] (pos 2)
    ∷ row_of (pos 1 ∷ pos 1 ∷ []) [] (pos 5)
    ∷ row_of (negsuc 0 ∷ negsuc 0 ∷ []) [] (pos 5)
    ∷ []

-- the values from -5 to 5
abbrev pub axis : Coordinate
axis = record { low = int (negsuc 4); step = int (pos 1); count = 10 }

-- The plant of the drill with this number: two coordinates and one input over three steps, without an offset, aimed at the origin.
pub record IsDrillPlant (number : ℕ) (plant : Plant) : Type 0 where
  pub states : plant.n ≡ 2
  pub inputs : plant.p ≡ 1
  pub steps : plant.horizon ≡ 3
  pub a_is : plant.a ≡ matrix 2 ((pos 1 ∷ pos 1 ∷ []) ∷ (turn_of number ∷ pos 1 ∷ []) ∷ [])
  pub b_is : plant.b ≡ matrix 1 ((pos (input_digit number) ∷ []) ∷ (pos 1 ∷ []) ∷ [])
  pub q_is : plant.q ≡ matrix 2 (((pos 1 +ℤ pos (weight_digit number)) ∷ pos 0 ∷ []) ∷ (pos 0 ∷ pos 1 ∷ []) ∷ [])
  pub r_is : plant.r ≡ matrix 1 ((pos 1 ∷ []) ∷ [])
  pub last_is : plant.last ≡ matrix 2 ((pos 1 ∷ pos 0 ∷ []) ∷ (pos 0 ∷ pos 1 ∷ []) ∷ [])
  pub drift_is : plant.drift ≡ vector (pos 0 ∷ pos 0 ∷ [])
  pub xgoal_is : plant.xgoal ≡ vector (pos 0 ∷ pos 0 ∷ [])
  pub ugoal_is : plant.ugoal ≡ vector (pos 0 ∷ [])
  pub rows_are : plant.rows ≡ stage_rows (input_bound number)
  pub terminal_is : plant.terminal ≡ end_rows
  pub grid_is : plant.grid ≡ axis ∷ axis ∷ []
