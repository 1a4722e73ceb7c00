-- How the lines of a controller's file are spelled: a first word, and further words behind one blank each.
use Rattle.std.specs.Prelude.{ℕ, ℤ, List, [], ◌∷◌, ◌++◌, map, codes, decimal}
use Rattle.std.specs.Fmt.{signed_decimal}
use Rattle.std.specs.List.{flat_map}
use Rattle.mpc_exact.specs.Rational.{ℚ}
use Rattle.mpc_space.specs.Matrix.{RationalMatrix}
use Rattle.mpc_frac.specs.Text.{text_of as fraction_text}
use Rattle.mpc_plant.specs.declared.lists.PlantRow.{PlantRow}
use Rattle.mpc_plant.specs.declared.lists.Coordinate.{Coordinate}
use Rattle.mpc_words.specs.Words.{line}

-- a line whose only further word is this number
abbrev pub count_line : List ℕ → ℕ → List ℕ
count_line first count = line first (decimal count ∷ [])

-- a line of whole numbers
abbrev pub integers_line : List ℕ → List ℤ → List ℕ
integers_line first integers = line first (map signed_decimal integers)

-- a line of fractions
abbrev pub fractions_line : List ℕ → List ℚ → List ℕ
fractions_line first fractions = line first (map fraction_text fractions)

-- ---- the plant
-- a matrix, row by row
abbrev pub matrix_line : List ℕ → RationalMatrix → List ℕ
matrix_line first m = fractions_line first (flat_map (λ row. row) m.rows)

abbrev pub row_line : List ℕ → PlantRow → List ℕ
row_line first row = fractions_line first (row.x ++ row.u ++ row.max ∷ [])

abbrev pub grid_line : Coordinate → List ℕ
grid_line axis = line (codes "grid") (fraction_text axis.low ∷ fraction_text axis.step ∷ decimal axis.count ∷ [])

-- ---- certificates
-- the position of a row and its multiplier
abbrev pub pair_words : (ℕ × ℚ) → List (List ℕ)
pair_words pair = decimal pair.0 ∷ fraction_text pair.1 ∷ []

abbrev pub cert_line : List (ℕ × ℚ) → List ℕ
cert_line cert = line (codes "cert") (flat_map pair_words cert)
