-- The faults of a plant file, in the order in which they are looked for. The first of them is told.
use Rattle.std.specs.Prelude.{◌≡◌, ◌↔◌, ℕ, suc, ◌+◌, ◌-◌, ◌*◌, ◌==◌, ◌||◌, ℤ, pos, negsuc, List, [], ◌∷◌, ◌++◌, map, codes, decimal, unsigned_abs, Bool, false, is_some, is_none, nat_le, if◌then◌else◌, slice_get, Option, Some, None, option_map, unwrap_or, IsUtf8}
use Rattle.std.specs.List.{flat_map, list_any, range_with_len}
use Rattle.std.specs.Ordering.{is_eq, int_eq}
use Rattle.std.specs.Str.{bytes_eq}
use Rattle.serde_json.specs.Data.{Data, null, string, Items, no_items, item, Members, no_members, member}
use Rattle.serde_json.specs.Events.{items_len}
use Rattle.serde_json.specs.Find.{get, at, as_number, as_str, as_array, as_object}
use Rattle.serde_json.specs.Read.{read}
use Rattle.mpc_exact.specs.Rational.{ℚ, int, lt_ℚ, cmp_ℚ}
use Rattle.mpc_plant.specs.declared.faults.PlantKind.{PlantKind}
use Rattle.mpc_plant.specs.declared.faults.PlantKind.TheVariants.{NotJson, NotObject, UnknownKey, MissingKey, WrongKind, BadNumber, WrongShape, OverLimit, NotSymmetric, StepNotPositive, BadVersion}
use Rattle.mpc_plant.specs.Paths.{below}
use Rattle.mpc_plant.specs.Numbers.{integer_of}
use Rattle.mpc_plant.specs.Decimals.{text_number}
use Rattle.mpc_plant.specs.Limits.{row_limit, greatest_count}
use Rattle.mpc_plant.specs.Keys.{axis_keys, row_keys, terminal_row_keys}
use Rattle.mpc_plant.specs.CheckedEntries.{is_from_to}
use Rattle.mpc_plant.specs.CheckedObjects.{shown_key}
use Rattle.mpc_plant.specs.WholePlant.{IsFirstFault}
use Rattle.mpc_theorem.specs.PlantFile.{keys_of_two}

-- ---- faults
-- what is wrong, and the path of keys and positions to it
abbrev pub Fault : Type 0
Fault = PlantKind × List ℕ

-- the value itself is at fault, unless the test holds
abbrev pub unless : Bool → PlantKind → List Fault
unless test kind = if test then [] else (kind, []) ∷ []

-- the faults at a key or a position, seen from one level higher
abbrev pub under : List ℕ → List Fault → List Fault
under segment faults = map (λ fault. (fault.0, below segment fault.1)) faults

-- those of what stands at a key, if something does
abbrev pub at_key : List ℕ → (Data → List Fault) → Data → List Fault
at_key key faults d = under key (unwrap_or (option_map faults (get key d)) [])

-- those of the items of a list, from this position on
abbrev pub each : (Data → List Fault) → ℕ → Items → List Fault
each faults i no_items = []
each faults i (item d ds) = under (decimal i) (faults d) ++ each faults (suc i) ds

-- ---- what stands where
-- at a key and at a position
abbrev pub value_at : List ℕ → Data → Data
value_at key d = unwrap_or (get key d) null

abbrev pub item_at : ℕ → Data → Data
item_at i d = unwrap_or (at i d) null

-- the items of a list, and how many it has
abbrev pub items_of : Data → Items
items_of d = unwrap_or (as_array d) no_items

abbrev pub size : Data → ℕ
size d = items_len (items_of d)

abbrev pub each_item : (Data → List Fault) → Data → List Fault
each_item faults d = each faults 0 (items_of d)

-- the number that a value is
abbrev pub number_of : Data → Option ℚ
number_of (string text) = text_number text
number_of other = option_map int (integer_of other)

abbrev pub number : Data → ℚ
number d = unwrap_or (number_of d) (int (pos 0))

abbrev pub integer : Data → ℤ
integer d = unwrap_or (integer_of d) (pos 0)

-- ---- objects
abbrev pub other_keys : List (List ℕ) → Members → List Fault
other_keys keys no_members = []
other_keys keys (member key d ms) = under (shown_key key) (unless (list_any (bytes_eq key) keys) UnknownKey) ++ other_keys keys ms

-- an object has no other key than these, and all that are needed
abbrev pub object_faults : List (List ℕ) → List (List ℕ) → Data → List Fault
object_faults keys needed d =
    unless (is_some (as_object d)) NotObject ++ (other_keys keys (unwrap_or (as_object d) no_members)
    ++ flat_map (λ key. under key (unless (is_some (get key d)) MissingKey)) needed)

-- ---- numbers and lists
abbrev pub number_faults : Data → List Fault
number_faults d = unless (is_some (as_number d) || is_some (as_str d)) WrongKind ++ unless (is_some (number_of d)) BadNumber

-- an integer from low to high
abbrev pub is_between : ℕ → ℕ → ℤ → Bool
is_between low high (pos k) = is_from_to low high k
is_between low high (negsuc k) = false

abbrev pub integer_faults : ℕ → ℕ → PlantKind → Data → List Fault
integer_faults low high kind d = unless (is_some (integer_of d)) WrongKind ++ unless (is_between low high (integer d)) kind

abbrev pub list_faults : Data → List Fault
list_faults d = unless (is_some (as_array d)) WrongKind

-- a list of low to high items
abbrev pub short_list_faults : ℕ → ℕ → Data → List Fault
short_list_faults low high d = list_faults d ++ unless (is_from_to low high (size d)) OverLimit

-- a list of so many items
abbrev pub sized_faults : ℕ → Data → List Fault
sized_faults n d = list_faults d ++ unless (size d == n) WrongShape

abbrev pub vector_faults : ℕ → Data → List Fault
vector_faults n d = sized_faults n d ++ each_item number_faults d

-- the rows of a matrix
abbrev pub rows_faults : ℕ → Data → List Fault
rows_faults columns d = each_item (vector_faults columns) d

-- a square matrix, and one whose rows are as long as the first
abbrev pub square_faults : Data → List Fault
square_faults d = short_list_faults 1 4 d ++ rows_faults (size d) d

abbrev pub side_faults : ℕ → Data → List Fault
side_faults n d = sized_faults n d ++ (under (decimal 0) (short_list_faults 1 3 (item_at 0 d)) ++ rows_faults (size (item_at 0 d)) d)

-- an entry right of the diagonal is that of its mirror image
abbrev pub mirror_faults : Data → ℕ → ℕ → List Fault
mirror_faults d i j = under (decimal i) (under (decimal j) (unless (is_eq (cmp_ℚ (number (item_at j (item_at i d))) (number (item_at i (item_at j d))))) NotSymmetric))

-- a symmetric matrix
abbrev pub weight_faults : ℕ → Data → List Fault
weight_faults n d =
    sized_faults n d ++ (rows_faults n d ++ flat_map (λ i. flat_map (mirror_faults d i) (range_with_len (i + 1) (n - (i + 1)))) (range_with_len 0 n))

-- ---- rows and axes
abbrev pub row_faults : ℕ → ℕ → Data → List Fault
row_faults n p d =
    object_faults row_keys (codes "max" ∷ []) d ++ (at_key (codes "x") (vector_faults n) d ++ (at_key (codes "u") (vector_faults p) d ++ at_key (codes "max") number_faults d))

abbrev pub terminal_row_faults : ℕ → Data → List Fault
terminal_row_faults n d = object_faults terminal_row_keys terminal_row_keys d ++ (at_key (codes "x") (vector_faults n) d ++ at_key (codes "max") number_faults d)

abbrev pub step_faults : Data → List Fault
step_faults d = number_faults d ++ unless (lt_ℚ (int (pos 0)) (number d)) StepNotPositive

abbrev pub axis_faults : Data → List Fault
axis_faults d =
    object_faults axis_keys axis_keys d ++ (at_key (codes "low") number_faults d ++ (at_key (codes "step") step_faults d ++ at_key (codes "count") (integer_faults 0 greatest_count OverLimit) d))

-- ---- the file
-- how many steps, states and inputs it has
abbrev pub steps : Data → ℕ
steps d = unsigned_abs (integer (value_at (codes "horizon") d))

abbrev pub states : Data → ℕ
states d = size (value_at (codes "A") d)

abbrev pub inputs : Data → ℕ
inputs d = size (item_at 0 (value_at (codes "B") d))

-- a key that version 2 alone has
abbrev pub edition_faults : Data → List Fault
edition_faults d =
    if int_eq (integer (value_at (codes "version") d)) (pos 1)
    then flat_map (λ key. under key (unless (is_none (get key d)) UnknownKey)) (codes "drift" ∷ codes "xgoal" ∷ codes "ugoal" ∷ []) else []

abbrev pub needed_keys : List (List ℕ)
needed_keys = codes "version" ∷ codes "horizon" ∷ codes "A" ∷ codes "B" ∷ codes "Q" ∷ codes "R" ∷ codes "P" ∷ codes "grid" ∷ []

abbrev pub head_faults : Data → List Fault
head_faults d =
    object_faults keys_of_two needed_keys d ++ (at_key (codes "version") (integer_faults 1 2 BadVersion) d ++ (edition_faults d ++ at_key (codes "horizon") (integer_faults 1 6 OverLimit) d))

-- each step's moves together have at most six entries
abbrev pub dynamics_faults : Data → List Fault
dynamics_faults d =
    at_key (codes "A") square_faults d ++ (at_key (codes "B") (side_faults (states d)) d ++ under (codes "horizon") (unless (nat_le (inputs d * steps d) 6) OverLimit))

abbrev pub weights_faults : ℕ → ℕ → Data → List Fault
weights_faults n p d = at_key (codes "Q") (weight_faults n) d ++ (at_key (codes "R") (weight_faults p) d ++ at_key (codes "P") (weight_faults n) d)

abbrev pub targets_faults : ℕ → ℕ → Data → List Fault
targets_faults n p d = at_key (codes "drift") (vector_faults n) d ++ (at_key (codes "xgoal") (vector_faults n) d ++ at_key (codes "ugoal") (vector_faults p) d)

-- there are only so many rows over all steps and the end
abbrev pub many_rows : ℕ → ℕ → Data → List Fault
many_rows p h d = under (codes "rows") (unless (nat_le (h * size (value_at (codes "rows") d) + size (value_at (codes "terminal") d)) (row_limit (p * h))) OverLimit)

abbrev pub row_lists_faults : ℕ → ℕ → ℕ → Data → List Fault
row_lists_faults n p h d =
    at_key (codes "rows") list_faults d ++ (at_key (codes "terminal") list_faults d ++ (many_rows p h d
    ++ (at_key (codes "rows") (each_item (row_faults n p)) d ++ at_key (codes "terminal") (each_item (terminal_row_faults n)) d)))

abbrev pub grid_faults : ℕ → Data → List Fault
grid_faults n d = sized_faults n d ++ each_item axis_faults d

abbrev pub plant_faults : Data → List Fault
plant_faults d =
    head_faults d ++ (dynamics_faults d ++ (weights_faults (states d) (inputs d) d ++ (targets_faults (states d) (inputs d) d
    ++ (row_lists_faults (states d) (inputs d) (steps d) d ++ at_key (codes "grid") (grid_faults (states d)) d))))

-- bytes that are no JSON text, or one whose value has faults, and this is the first
pub data IsFaultyText (bytes : List ℕ) : PlantKind → List ℕ → Type 0 where
  no_json : (IsUtf8 bytes → read bytes ≡ None) → IsFaultyText bytes NotJson []
  faulty : (value : Data) (kind : PlantKind) (path : List ℕ) → IsUtf8 bytes → read bytes ≡ Some value → slice_get (plant_faults value) 0 ≡ Some (kind, path) → IsFaultyText bytes kind path

-- the first check that fails is the first of these faults
abbrev pub FaultsAreFirst : Type 0
FaultsAreFirst = (bytes : List ℕ) (kind : PlantKind) (path : List ℕ) → IsFirstFault bytes kind path ↔ IsFaultyText bytes kind path
