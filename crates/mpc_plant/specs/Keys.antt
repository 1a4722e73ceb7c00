-- The keys of the objects of a plant file.
use Rattle.std.specs.Prelude.{ℕ, List, [], ◌∷◌, codes, Option, Some, None, if◌then◌else◌}
use Rattle.std.specs.List.{list_any}
use Rattle.std.specs.Str.{bytes_eq}
use Rattle.serde_json.specs.Data.{Members, no_members, member}

-- the first key that is none of these
abbrev pub first_other : List (List ℕ) → Members → Option (List ℕ)
first_other keys no_members = None
first_other keys (member key d ms) = if list_any (bytes_eq key) keys then first_other keys ms else Some key

-- the keys of a coordinate
abbrev pub axis_keys : List (List ℕ)
axis_keys = codes "low" ∷ codes "step" ∷ codes "count" ∷ []

-- the keys of a row that holds before the end
abbrev pub row_keys : List (List ℕ)
row_keys = codes "x" ∷ codes "u" ∷ codes "max" ∷ []

-- the keys of a row that holds at the end
abbrev pub terminal_row_keys : List (List ℕ)
terminal_row_keys = codes "x" ∷ codes "max" ∷ []

-- the keys of the whole; the last three are those of version 2 alone
abbrev pub plant_keys : List (List ℕ)
plant_keys =
    codes "version" ∷ codes "horizon" ∷ codes "A" ∷ codes "B" ∷ codes "Q" ∷ codes "R" ∷ codes "P" ∷ codes "rows" ∷ codes "terminal" ∷ codes "grid" ∷ codes "drift" ∷ codes "xgoal"
    ∷ codes "ugoal" ∷ []
