-- Which numbers words spell.
use Rattle.std.specs.Prelude.{◌≡◌, ◌≢◌, ℕ, ◌^◌, ◌<◌, ◌≤◌, nat_lt, if◌then◌else◌, Option, Some, None, List, ℤ, pos, unsigned_abs, decimal}
use Rattle.std.specs.Fmt.{signed_decimal}
use Rattle.mpc_exact.specs.Rational.{ℚ}
use Rattle.mpc_frac.specs.Fits.{FitsFrac}
use Rattle.mpc_frac.specs.Text.{text_of}
use Rattle.mpc_words.specs.Numerals.{numeral}
use Rattle.mpc_words.specs.declared.naturals.Natural.{Natural}
use Rattle.mpc_words.specs.declared.naturals.Natural.TheVariants.{Small, Large, Misspelled}

-- the word is this number, which lies below a limit
pub record SpellsBelow (limit : ℕ) (word : List ℕ) (n : ℕ) : Type 0 where
  pub spelled : word ≡ numeral n
  pub below : n < limit

-- the word is a number that is at least the limit
pub record SpellsFrom (limit : ℕ) (word : List ℕ) : Type 0 where
  pub number : ℕ
  pub spelled : word ≡ numeral number
  pub at_least : limit ≤ number

-- the natural number that the word is: below 2^64, from there on, or none
abbrev pub SpellsNatural : List ℕ → Natural → Type 0
SpellsNatural word (Small n) = SpellsBelow (2 ^ 64) word n
SpellsNatural word Large = SpellsFrom (2 ^ 64) word
SpellsNatural word Misspelled = (n : ℕ) → word ≢ numeral n

-- the number below 2^64 whose printed text the word is, or none
abbrev pub PrintsNatural : List ℕ → Natural → Type 0
PrintsNatural word (Small n) = word ≡ decimal n
PrintsNatural word Large = (n : ℕ) → n < 2 ^ 64 → word ≢ decimal n
PrintsNatural word Misspelled = (n : ℕ) → n < 2 ^ 64 → word ≢ decimal n

-- a number in 64 bits, where it fits
abbrev pub in_64_bits : Option ℕ → Natural
in_64_bits None = Large
in_64_bits (Some n) = if nat_lt n (2 ^ 64) then Small n else Large

-- the word is this whole number, at most 2^127 - 1 in size
pub record SpellsInteger (word : List ℕ) (z : ℤ) : Type 0 where
  pub spelled : word ≡ signed_decimal z
  pub fits : unsigned_abs z < 2 ^ 127

-- the word is this fraction in lowest terms, both parts at most 2^127 - 1 in size
pub record SpellsFraction (word : List ℕ) (x : ℚ) : Type 0 where
  pub spelled : word ≡ text_of x
  pub fits : FitsFrac x

-- ---- the cases of a fraction
-- the fraction is num/den, and that is in lowest terms
pub record HasParts (x : ℚ) (num den : ℤ) : Type 0 where
  pub numer_is : x.numer ≡ num
  pub denom_is : pos x.denom ≡ den

-- the word is this whole number
pub record SpellsWhole (word : List ℕ) (x : ℚ) : Type 0 where
  pub numer : SpellsInteger word x.numer
  pub denom : x.denom ≡ 1

-- the words are the parts of this fraction, which is no whole number
pub record SpellsRatio (above below : List ℕ) (x : ℚ) : Type 0 where
  pub numer : SpellsInteger above x.numer
  pub denom : SpellsBelow (2 ^ 127) below x.denom
  pub no_whole : x.denom ≢ 1
