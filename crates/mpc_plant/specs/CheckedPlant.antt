-- A plant file, checked: one check after another, each with the fault that it answers and where.
use Rattle.std.specs.Prelude.{ℕ, zero, suc, ◌+◌, ◌-◌, ℤ, pos, negsuc, List, [], length, get_or, codes, decimal, Bool, not, ◌||◌, if◌then◌else◌, Option, Some, None, Ok, Err, ⊤}
use Rattle.std.specs.Ordering.{is_eq, int_eq}
use Rattle.serde_json.specs.Data.{Data, Items, no_items, item}
use Rattle.serde_json.specs.Events.{items_len}
use Rattle.serde_json.specs.Find.{get}
use Rattle.mpc_exact.specs.Rational.{ℚ, cmp_ℚ}
use Rattle.mpc_space.specs.Vector.{cell}
use Rattle.mpc_plant.specs.declared.faults.PlantKind.TheVariants.{BadVersion, UnknownKey, OverLimit, NotSymmetric}
use Rattle.mpc_plant.specs.declared.lists.Coordinate.{Coordinate}
use Rattle.mpc_plant.specs.Keys.{plant_keys}
use Rattle.mpc_plant.specs.Paths.{below}
use Rattle.mpc_plant.specs.Faults.{Checked, ◌>>=◌, fault, ensure, under, each}
use Rattle.mpc_plant.specs.CheckedEntries.{is_from_to, list_between, whole_number_of, list_of, list_of_length, rows_of}
use Rattle.mpc_plant.specs.CheckedObjects.{object_with, needed}
use Rattle.mpc_plant.specs.CheckedRows.{axis_of}

-- what stands at a needed key, checked
abbrev pub at_key : {A : Type 0} → List ℕ → (Data → Checked A) → Data → Checked A
at_key key check d = needed key d >>= λ value. under key (check value)

-- ---- keys, version and horizon
abbrev pub keys_of : Data → Checked ⊤
keys_of d =
    object_with plant_keys d >>= λ _. needed (codes "version") d >>= λ _. needed (codes "horizon") d >>= λ _. needed (codes "A") d >>= λ _. needed (codes "B") d >>= λ _. needed (codes "Q") d >>= λ _.
    needed (codes "R") d >>= λ _. needed (codes "P") d >>= λ _. needed (codes "grid") d >>= λ _. Ok tt

-- 1 or 2
abbrev pub is_version : ℤ → Bool
is_version z = int_eq z (pos 1) || int_eq z (pos 2)

abbrev pub version_of : Data → Checked ℤ
version_of d = whole_number_of d >>= λ z. ensure (is_version z) BadVersion >>= λ _. Ok z

-- a key at which nothing stands
abbrev pub absent : List ℕ → Option Data → Checked ⊤
absent key None = Ok tt
absent key (Some d) = Err (UnknownKey, below key [])

-- the keys that version 1 doesn't have
abbrev pub plain_of : Data → Checked ⊤
plain_of d = absent (codes "drift") (get (codes "drift") d) >>= λ _. absent (codes "xgoal") (get (codes "xgoal") d) >>= λ _. absent (codes "ugoal") (get (codes "ugoal") d)

-- what a version allows
abbrev pub allowed_by : Data → ℤ → Checked ⊤
allowed_by d z = if int_eq z (pos 1) then plain_of d else Ok tt

abbrev pub edition_of : Data → Checked ⊤
edition_of d = at_key (codes "version") version_of d >>= allowed_by d

abbrev pub steps_in : ℤ → Checked ℕ
steps_in (pos k) = if is_from_to 1 6 k then Ok k else fault OverLimit
steps_in (negsuc k) = fault OverLimit

abbrev pub horizon_of : Data → Checked ℕ
horizon_of d = whole_number_of d >>= steps_in

-- ---- matrices
-- the first k from `from`, among so many, that passes
abbrev pub first_passing : (ℕ → Bool) → ℕ → ℕ → Option ℕ
first_passing test from zero = None
first_passing test from (suc count) = if test from then Some from else first_passing test (suc from) count

abbrev pub differs : List (List ℚ) → ℕ → ℕ → Bool
differs m i j = not (is_eq (cmp_ℚ (cell m i j) (cell m j i)))

-- the first entry right of the diagonal in row i that is not its mirror image
abbrev pub row_difference : List (List ℚ) → ℕ → ℕ → Option ℕ
row_difference m size i = first_passing (differs m i) (i + 1) (size - (i + 1))

abbrev pub difference_at : ℕ → Option ℕ → Option (ℕ × ℕ) → Option (ℕ × ℕ)
difference_at i None rest = rest
difference_at i (Some j) rest = Some (i, j)

-- the first such entry, row by row
abbrev pub difference_from : List (List ℚ) → ℕ → ℕ → ℕ → Option (ℕ × ℕ)
difference_from m size i zero = None
difference_from m size i (suc count) = difference_at i (row_difference m size i) (difference_from m size (suc i) count)

abbrev pub no_difference : Option (ℕ × ℕ) → Checked ⊤
no_difference None = Ok tt
no_difference (Some place) = Err (NotSymmetric, below (decimal place.0) (below (decimal place.1) []))

-- a symmetric matrix of a size
abbrev pub weight_of : ℕ → Data → Checked (List (List ℚ))
weight_of size d = list_of_length size d >>= λ items. rows_of size items >>= λ rows. no_difference (difference_from rows size 0 size) >>= λ _. Ok rows

-- a square matrix of one to four rows
abbrev pub square_of : Data → Checked (List (List ℚ))
square_of d = list_between 1 4 d >>= λ items. rows_of (items_len items) items

-- how many entries the first row has: one to three
abbrev pub width_of : Data → Checked ℕ
width_of d = list_between 1 3 d >>= λ entries. Ok (items_len entries)

abbrev pub first_width : Items → Checked ℕ
first_width no_items = Ok 0
first_width (item d ds) = under (decimal 0) (width_of d)

-- a matrix of so many rows, each as long as the first one
abbrev pub side_of : ℕ → Data → Checked (List (List ℚ))
side_of size d = list_of_length size d >>= λ items. first_width items >>= λ columns. rows_of columns items

-- the columns of a matrix with rows
abbrev pub width : List (List ℚ) → ℕ
width rows = length (get_or rows 0 [])

-- ---- rows and grid
abbrev pub list_or_none : List ℕ → Option Data → Checked Items
list_or_none key None = Ok no_items
list_or_none key (Some d) = under key (list_of d)

abbrev pub grid_of : ℕ → Data → Checked (List Coordinate)
grid_of size d = list_of_length size d >>= λ items. each axis_of 0 items
