-- The numbers of a plant file that stand in strings: -?D, -?D/D or -?D.D, where D is a numeral.
use Rattle.std.specs.Prelude.{ℕ, ◌+◌, ◌-◌, ◌*◌, ◌^◌, ◌==◌, ◌&&◌, pos, List, [], ◌∷◌, length, take, drop, fold, position, Bool, nat_lt, nat_le, if◌then◌else◌, Option, Some, None, option_map, option_and_then}
use Rattle.std.specs.List.{list_all}
use Rattle.std.specs.Char.{is_ascii_digit}
use Rattle.mpc_exact.specs.Rational.{ℚ, int, frac, neg_ℚ}

-- the value of decimal digits
abbrev pub decimal_value : List ℕ → ℕ
decimal_value digits = fold (λ value c. 10 * value + (c - 48)) 0 digits

-- one to 18 ASCII digits
abbrev pub is_numeral : List ℕ → Bool
is_numeral text = nat_lt 0 (length text) && nat_le (length text) 18 && list_all is_ascii_digit text

-- the value of a numeral
abbrev pub numeral : List ℕ → Option ℕ
numeral text = if is_numeral text then Some (decimal_value text) else None

-- what stands before and after the first such byte
abbrev pub parted : ℕ → List ℕ → Option (List ℕ × List ℕ)
parted byte text = option_map (λ k. (take k text, drop (k + 1) text)) (position (λ c. c == byte) text)

-- n / d, where d isn't 0
abbrev pub ratio : ℕ → ℕ → Option ℚ
ratio n d = if d == 0 then None else Some (frac (pos n) d)

-- two numerals of which the second isn't 0
abbrev pub ratio_of : List ℕ × List ℕ → Option ℚ
ratio_of parts = option_and_then (λ n. option_and_then (ratio n) (numeral parts.1)) (numeral parts.0)

-- i.f with k digits in f: (i 10^k + f) / 10^k
abbrev pub decimal_of : List ℕ × List ℕ → Option ℚ
decimal_of parts =
    option_and_then (λ i. option_map (λ f. frac (pos (i * 10 ^ length parts.1 + f)) (10 ^ length parts.1)) (numeral parts.1)) (numeral parts.0)

abbrev pub whole_of : List ℕ → Option ℚ
whole_of text = option_map (λ n. int (pos n)) (numeral text)

-- where there is a stroke, or none
abbrev pub plain_at_stroke : List ℕ → Option (List ℕ × List ℕ) → Option ℚ
plain_at_stroke text None = whole_of text
plain_at_stroke text (Some parts) = ratio_of parts

-- the number that a text without a sign and a point is: D or D/D
abbrev pub plain_number : List ℕ → Option ℚ
plain_number text = plain_at_stroke text (parted 47 text)

-- where there is a point, or none
abbrev pub unsigned_at_point : List ℕ → Option (List ℕ × List ℕ) → Option ℚ
unsigned_at_point text None = whole_of text
unsigned_at_point text (Some parts) = decimal_of parts

-- where there is a stroke, or none
abbrev pub unsigned_at_stroke : List ℕ → Option (List ℕ × List ℕ) → Option ℚ
unsigned_at_stroke text None = unsigned_at_point text (parted 46 text)
unsigned_at_stroke text (Some parts) = ratio_of parts

abbrev pub unsigned_number : List ℕ → Option ℚ
unsigned_number text = unsigned_at_stroke text (parted 47 text)

-- the number that a text is
abbrev pub text_number : List ℕ → Option ℚ
text_number [] = None
text_number (c ∷ text) = if c == 45 then option_map neg_ℚ (unsigned_number text) else unsigned_number (c ∷ text)
