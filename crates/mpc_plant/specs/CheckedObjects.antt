-- The objects of a plant file, checked: their keys, and what stands at them.
use Rattle.std.specs.Prelude.{ℕ, ◌&&◌, ◌||◌, ◌==◌, List, [], map, take, Bool, nat_le, if◌then◌else◌, Option, Some, None, Ok, Err, ⊤}
use Rattle.std.specs.Str.{chars}
use Rattle.serde_json.specs.Data.{Data}
use Rattle.serde_json.specs.Find.{get, as_object}
use Rattle.mpc_plant.specs.declared.faults.PlantKind.TheVariants.{NotObject, UnknownKey, MissingKey}
use Rattle.mpc_plant.specs.Keys.{first_other}
use Rattle.mpc_plant.specs.Paths.{below}
use Rattle.mpc_plant.specs.Faults.{Checked, ◌>>=◌}
use Rattle.mpc_plant.specs.CheckedEntries.{found}

-- a letter, a digit, `_` or `-`, all ASCII
abbrev pub is_plain : ℕ → Bool
is_plain c = (nat_le 48 c && nat_le c 57) || (nat_le 65 c && nat_le c 90) || (nat_le 97 c && nat_le c 122) || c == 95 || c == 45

-- a key as a path shows it: its first 32 characters, each that is not plain as `?`
abbrev pub shown_key : List ℕ → List ℕ
shown_key key = map (λ c. if is_plain c then c else 63) (take 32 (chars key))

-- the first unknown key, if there is one
abbrev pub unknown : Option (List ℕ) → Checked ⊤
unknown None = Ok tt
unknown (Some key) = Err (UnknownKey, below (shown_key key) [])

-- an object with no key but these
abbrev pub object_with : List (List ℕ) → Data → Checked ⊤
object_with keys d = found NotObject (as_object d) >>= λ members. unknown (first_other keys members)

-- what stands at a key that is needed
abbrev pub present : List ℕ → Option Data → Checked Data
present key None = Err (MissingKey, below key [])
present key (Some d) = Ok d

abbrev pub needed : List ℕ → Data → Checked Data
needed key d = present key (get key d)
