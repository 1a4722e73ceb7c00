-- A text cut at its first line that is a word.
use Rattle.std.specs.Prelude.{ℕ, ◌==◌, ◌||◌, if◌then◌else◌, Bool, Option, Some, None, List, [], ◌∷◌, ◌++◌, bytes_eq, codes}
use Rattle.std.specs.List.{onto_first, concat}

-- the lines of a text, each with its end, which is a line feed or the end of the text
unfoldable pub whole_lines : List ℕ → List (List ℕ)
whole_lines [] = []
whole_lines (b ∷ bs) = if b == 10 then (b ∷ []) ∷ whole_lines bs else onto_first b (whole_lines bs)

-- the line, with its end, is exactly the word; one carriage return before its line feed isn't part of it
abbrev pub is_line : List ℕ → List ℕ → Bool
is_line word line = bytes_eq line (word ++ codes "\n") || (bytes_eq line (word ++ codes "\r\n") || bytes_eq line word)

-- the text of the lines before the first such line: of all lines, where there is none
unfoldable pub before_line : List ℕ → List (List ℕ) → List ℕ
before_line word [] = []
before_line word (line ∷ more) = if is_line word line then [] else line ++ before_line word more

-- the text of the lines behind it, where there is one
unfoldable pub behind_line : List ℕ → List (List ℕ) → Option (List ℕ)
behind_line word [] = None
behind_line word (line ∷ more) = if is_line word line then Some (concat more) else behind_line word more
