-- A line of counts.
use Rattle.std.specs.Prelude.{ℕ, ◌+◌, ◌-◌, ◌*◌, Bool, ◌&&◌, if◌then◌else◌, Option, Some, None, List, map, fold, length, nat_le, ◌==◌}
use Rattle.std.specs.List.{list_all}
use Rattle.std.specs.Char.{is_ascii_digit}
use Rattle.mpc_words.specs.Words.{words_of}

-- a count is spelled by 1 to 18 digits
abbrev pub is_count : List ℕ → Bool
is_count text = nat_le 1 (length text) && (nat_le (length text) 18 && list_all is_ascii_digit text)

-- the number that digits stand for
abbrev pub value_of : List ℕ → ℕ
value_of text = fold (λ value digit. value * 10 + (digit - 48)) 0 text

-- the count that a text spells
unfoldable pub count_of : List ℕ → Option ℕ
count_of text = if is_count text then Some (value_of text) else None

-- the n counts of a line, with one blank between two
unfoldable pub counts_of : List ℕ → ℕ → Option (List ℕ)
counts_of line n = if (length (words_of line) == n) && list_all is_count (words_of line) then Some (map value_of (words_of line)) else None
