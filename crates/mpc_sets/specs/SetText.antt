-- How a set is written.
use Rattle.std.specs.Prelude.{ℕ, ◌++◌, List, [], ◌∷◌, map}
use Rattle.std.specs.Fmt.{decimal}
use Rattle.std.specs.List.{join_with_byte}

-- the members in rising order, with commas between them, in braces: {} and {1,3}
abbrev pub set_text : List ℕ → List ℕ
set_text s = 123 ∷ (join_with_byte 44 (map decimal s) ++ 125 ∷ [])
