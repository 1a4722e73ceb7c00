-- The paths in a plant file.
use Rattle.std.specs.Prelude.{ℕ, List, ◌∷◌, ◌++◌}

-- a path from one level higher, at this key or position
abbrev pub below : List ℕ → List ℕ → List ℕ
below segment path = 47 ∷ segment ++ path
