-- What is written: the lines of a plant, one below the other, and what it means that lines are read as they were meant.
use Rattle.std.specs.Prelude.{ℕ, List, [], ◌∷◌, ◌++◌, length, map, codes, decimal}
use Rattle.std.specs.List.{flat_map}
use Rattle.mpc_plant.specs.declared.plants.Plant.{Plant}
use Rattle.mpc_plant.specs.declared.lists.PlantRow.{PlantRow}
use Rattle.mpc_words.specs.Words.{line}
use Rattle.mpc_grammar.specs.Reading.{Grammar}
use Rattle.mpc_grammar.specs.Lines.{count_line, fractions_line, matrix_line, row_line, grid_line}

-- in front of any other text and at any number, the grammar reads this from the text
pub record Prints {X : Type 0} (grammar : Grammar X) (x : X) (text : List ℕ) : Type 0 where
  pub reads : (more : List ℕ) (number : ℕ) → (after : ℕ) × grammar.Reads (record { rest = text ++ more; number = number }) x (record { rest = more; number = after })

-- a line with the line feed that ends it
abbrev pub ended : List ℕ → List ℕ
ended text = text ++ codes "\n"

-- the lines one below the other
abbrev pub text_of_lines : List (List ℕ) → List ℕ
text_of_lines lines = flat_map ended lines

-- ---- the plant
-- the numbers n of states, p of inputs and N of steps
abbrev pub size_line : Plant → List ℕ
size_line plant = line (codes "size") (decimal plant.n ∷ decimal plant.p ∷ decimal plant.horizon ∷ [])

abbrev pub matrix_lines : Plant → List (List ℕ)
matrix_lines plant = matrix_line (codes "A") plant.a ∷ matrix_line (codes "B") plant.b ∷ matrix_line (codes "Q") plant.q ∷ matrix_line (codes "R") plant.r ∷ matrix_line (codes "P") plant.last ∷ []

abbrev pub drift_line : Plant → List ℕ
drift_line plant = fractions_line (codes "drift") plant.drift

-- the state to be reached, and then the input to be held
abbrev pub goal_line : Plant → List ℕ
goal_line plant = fractions_line (codes "goal") (plant.xgoal ++ plant.ugoal)

abbrev pub row_lines : List PlantRow → List (List ℕ)
row_lines rows = count_line (codes "rows") (length rows) ∷ map (row_line (codes "row")) rows

abbrev pub last_lines : List PlantRow → List (List ℕ)
last_lines rows = count_line (codes "terminal") (length rows) ∷ map (row_line (codes "last")) rows

-- the lines of the plant in version 3
abbrev pub plant_lines : Plant → List (List ℕ)
plant_lines plant = size_line plant ∷ (matrix_lines plant ++ (drift_line plant ∷ goal_line plant ∷ []) ++ row_lines plant.rows ++ last_lines plant.terminal ++ map grid_line plant.grid)
