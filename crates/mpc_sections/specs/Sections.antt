-- A text cut into sections at its lines `next`: so many such lines make one section more, and the last one may be empty.
use Rattle.std.specs.Prelude.{ℕ, if◌then◌else◌, List, [], ◌∷◌, ◌++◌, codes}
use Rattle.mpc_words.specs.WholeLines.{whole_lines, is_line}

-- the line before the first section
abbrev pub onto_section : List ℕ → List (List ℕ) → List (List ℕ)
onto_section line [] = line ∷ []
onto_section line (section ∷ more) = (line ++ section) ∷ more

-- the sections of lines: a line `next` ends one
unfoldable pub sections_of_lines : List (List ℕ) → List (List ℕ)
sections_of_lines [] = [] ∷ []
sections_of_lines (line ∷ more) = if is_line (codes "next") line then [] ∷ sections_of_lines more else onto_section line (sections_of_lines more)

abbrev pub sections_of : List ℕ → List (List ℕ)
sections_of input = sections_of_lines (whole_lines input)
