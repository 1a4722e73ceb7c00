-- Natural numbers of any size in decimal digits, without a zero in front.
use Rattle.std.specs.Prelude.{ℕ, ◌+◌, Bool, ◌&&◌, if◌then◌else◌, ◌==◌, nat_lt, List, map, length, codes, slice_index}
use Rattle.std.specs.List.{list_all}
use Rattle.std.specs.Char.{is_ascii_digit}
use Rattle.std.specs.Int.Digits.{digits_of}

-- the decimal digits of a number, the highest first
unfoldable pub numeral : ℕ → List ℕ
numeral n = if n == 0 then codes "0" else map (λ digit. 48 + digit) (digits_of 10 n)

-- digits, of which the first is a zero only where it is the only one
abbrev pub is_numeral : List ℕ → Bool
is_numeral word = if slice_index word 0 == 48 then length word == 1 else nat_lt 0 (length word) && list_all is_ascii_digit word
