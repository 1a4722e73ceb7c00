-- The rows and the coordinates of a plant file, checked.
use Rattle.std.specs.Prelude.{ℕ, ℤ, pos, negsuc, List, [], codes, replicate, nat_le, if◌then◌else◌, Option, Some, None, Ok}
use Rattle.serde_json.specs.Data.{Data}
use Rattle.serde_json.specs.Find.{get}
use Rattle.mpc_exact.specs.Rational.{ℚ, int, lt_ℚ}
use Rattle.mpc_plant.specs.declared.faults.PlantKind.TheVariants.{OverLimit, StepNotPositive}
use Rattle.mpc_plant.specs.declared.lists.PlantRow.{PlantRow}
use Rattle.mpc_plant.specs.declared.lists.Coordinate.{Coordinate}
use Rattle.mpc_plant.specs.Limits.{greatest_count}
use Rattle.mpc_plant.specs.Keys.{axis_keys, row_keys, terminal_row_keys}
use Rattle.mpc_plant.specs.Faults.{Checked, ◌>>=◌, fault, ensure, under}
use Rattle.mpc_plant.specs.CheckedEntries.{number_of, whole_number_of, vector_of}
use Rattle.mpc_plant.specs.CheckedObjects.{object_with, needed}

-- a vector where there is one, and zeros where there is none
abbrev pub vector_or_zeros : List ℕ → ℕ → Option Data → Checked (List ℚ)
vector_or_zeros key size None = Ok (replicate size (int (pos 0)))
vector_or_zeros key size (Some d) = under key (vector_of size d)

-- a row that holds before the end
abbrev pub stage_row_of : ℕ → ℕ → Data → Checked PlantRow
stage_row_of n p d =
    object_with row_keys d >>= λ _. needed (codes "max") d >>= λ top. vector_or_zeros (codes "x") n (get (codes "x") d) >>= λ x. vector_or_zeros (codes "u") p (get (codes "u") d) >>= λ u.
    under (codes "max") (number_of top) >>= λ max. Ok (record { x = x; u = u; max = max })

-- a row that holds at the end
abbrev pub terminal_row_of : ℕ → Data → Checked PlantRow
terminal_row_of n d =
    object_with terminal_row_keys d >>= λ _. needed (codes "x") d >>= λ side. needed (codes "max") d >>= λ top. under (codes "x") (vector_of n side) >>= λ x.
    under (codes "max") (number_of top) >>= λ max. Ok (record { x = x; u = []; max = max })

-- a step above 0
abbrev pub step_of : Data → Checked ℚ
step_of d = number_of d >>= λ step. ensure (lt_ℚ (int (pos 0)) step) StepNotPositive >>= λ _. Ok step

-- a count from 0 to the limit
abbrev pub count_in : ℤ → Checked ℕ
count_in (pos k) = if nat_le k greatest_count then Ok k else fault OverLimit
count_in (negsuc k) = fault OverLimit

abbrev pub count_of : Data → Checked ℕ
count_of d = whole_number_of d >>= count_in

-- a coordinate of the grid
abbrev pub axis_of : Data → Checked Coordinate
axis_of d =
    object_with axis_keys d >>= λ _. needed (codes "low") d >>= λ low. needed (codes "step") d >>= λ step. needed (codes "count") d >>= λ count. under (codes "low") (number_of low) >>= λ low.
    under (codes "step") (step_of step) >>= λ step. under (codes "count") (count_of count) >>= λ count. Ok (record { low = low; step = step; count = count })
