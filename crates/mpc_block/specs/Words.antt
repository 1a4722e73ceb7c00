-- Whole numbers in words of 64 bits, as two's complement has them, and lines of words.
use Rattle.std.specs.Prelude.{ℕ, ◌+◌, ◌*◌, ◌^◌, ℤ, List, [], ◌∷◌, slice_index, slice_range}
use Rattle.std.specs.Int.{cast_signed, w64, w128}
use Rattle.mpc_block.specs.declared.lines.Width.{Width}
use Rattle.mpc_block.specs.declared.lines.Width.TheVariants.{Short, Wide}

-- the number in two words, the low one first
abbrev pub signed_number : ℕ → ℕ → ℤ
signed_number low high = cast_signed w128 (low + 2 ^ 64 * high)

-- so many words from this one on
abbrev pub words_from : List ℕ → ℕ → ℕ → List ℕ
words_from words start size = slice_range words start (start + size)

-- a line's number i: short ones have a word each, wide ones two
abbrev pub number_at : Width → List ℕ → ℕ → ℤ
number_at Short line i = cast_signed w64 (slice_index line i)
number_at Wide line i = signed_number (slice_index line (2 * i)) (slice_index line (2 * i + 1))

-- the numbers 2 to 5 of a line
abbrev pub entries : Width → List ℕ → List ℤ
entries width line = number_at width line 2 ∷ number_at width line 3 ∷ number_at width line 4 ∷ number_at width line 5 ∷ []

-- the numbers 1 to 5
abbrev pub numbers_in : Width → List ℕ → List ℤ
numbers_in width line = number_at width line 1 ∷ entries width line
