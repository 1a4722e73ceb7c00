-- The lists of numbers in a plant file, checked: vectors, and matrices as lists of rows.
use Rattle.std.specs.Prelude.{ℕ, ◌==◌, ◌&&◌, ℤ, List, Bool, nat_le, Option, Some, None, Ok, option_map}
use Rattle.serde_json.specs.Data.{Data, null, boolean, number, string, array, object, Items}
use Rattle.serde_json.specs.Find.{as_array}
use Rattle.serde_json.specs.Events.{items_len}
use Rattle.mpc_exact.specs.Rational.{ℚ, int}
use Rattle.mpc_plant.specs.declared.faults.PlantKind.{PlantKind}
use Rattle.mpc_plant.specs.declared.faults.PlantKind.TheVariants.{WrongKind, BadNumber, WrongShape, OverLimit}
use Rattle.mpc_plant.specs.Faults.{Checked, ◌>>=◌, fault, ensure, each}
use Rattle.mpc_plant.specs.Numbers.{integer_of}
use Rattle.mpc_plant.specs.Decimals.{text_number}

-- the value, if there is one
abbrev pub found : {A : Type 0} → PlantKind → Option A → Checked A
found kind None = fault kind
found kind (Some x) = Ok x

-- the number that a JSON value is: a short integer, or a text of a number
abbrev pub number_of : Data → Checked ℚ
number_of null = fault WrongKind
number_of (boolean b) = fault WrongKind
number_of (number n) = found BadNumber (option_map int (integer_of (number n)))
number_of (string text) = found BadNumber (text_number text)
number_of (array items) = fault WrongKind
number_of (object ms) = fault WrongKind

-- an integer
abbrev pub whole_number_of : Data → Checked ℤ
whole_number_of d = found WrongKind (integer_of d)

-- a list
abbrev pub list_of : Data → Checked Items
list_of d = found WrongKind (as_array d)

-- a list of so many items
abbrev pub list_of_length : ℕ → Data → Checked Items
list_of_length size d = list_of d >>= λ items. ensure (items_len items == size) WrongShape >>= λ _. Ok items

-- a number from low to high
abbrev pub is_from_to : ℕ → ℕ → ℕ → Bool
is_from_to low high k = nat_le low k && nat_le k high

-- a list of so many to so many items
abbrev pub list_between : ℕ → ℕ → Data → Checked Items
list_between low high d = list_of d >>= λ items. ensure (is_from_to low high (items_len items)) OverLimit >>= λ _. Ok items

-- a vector of so many numbers
abbrev pub vector_of : ℕ → Data → Checked (List ℚ)
vector_of size d = list_of_length size d >>= λ items. each number_of 0 items

-- the rows of a matrix of so many columns
abbrev pub rows_of : ℕ → Items → Checked (List (List ℚ))
rows_of columns items = each (vector_of columns) 0 items
