-- A text cut at its first line `states`: the head before that line, and the lines of counts behind it.
use Rattle.std.specs.Prelude.{ℕ, List, [], codes}
use Rattle.std.specs.Option.{unwrap_or}
use Rattle.std.specs.Str.Lines.{lines}
use Rattle.mpc_words.specs.WholeLines.{whole_lines, before_line, behind_line}

-- the plant or controller of an input
abbrev pub head_of : List ℕ → List ℕ
head_of input = before_line (codes "states") (whole_lines input)

-- the bytes behind the line `states`
abbrev pub tail_of : List ℕ → List ℕ
tail_of input = unwrap_or (behind_line (codes "states") (whole_lines input)) []

-- the lines of counts of an input: each ends at a line feed or at the end of the input, and one carriage return before the line feed isn't
-- part of it
abbrev pub count_lines : List ℕ → List (List ℕ)
count_lines input = lines (tail_of input)
