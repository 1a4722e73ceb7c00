-- Which numbers the words of a line spell behind its first word.
use Rattle.std.specs.Prelude.{◌≡◌, ◌≢◌, ℕ, ◌^◌, ◌<◌, ◌≤◌, ℤ, List, [], ◌∷◌}
use Rattle.mpc_exact.specs.Rational.{ℚ}
use Rattle.mpc_linear.specs.Whole.{AreSmall}
use Rattle.mpc_words.specs.Words.{line}
use Rattle.mpc_words.specs.Numerals.{numeral}
use Rattle.mpc_words.specs.declared.naturals.Natural.{Natural}
use Rattle.mpc_words.specs.declared.naturals.Natural.TheVariants.{Small, Large, Misspelled}
use Rattle.mpc_grammar.specs.Lines.{count_line, fractions_line, integers_line}
use Rattle.mpc_grammar.specs.PlantGrammar.{AllFit}

-- these fractions
pub record AreFractions (name text : List ℕ) (xs : List ℚ) : Type 0 where
  pub spelled : text ≡ fractions_line name xs
  pub fits : AllFit xs

-- these whole numbers
pub record AreIntegers (name text : List ℕ) (zs : List ℤ) : Type 0 where
  pub spelled : text ≡ integers_line name zs
  pub small : AreSmall zs

abbrev pub numeral_line : List ℕ → ℕ → List ℕ
numeral_line name n = line name (numeral n ∷ [])

-- this one natural number: below 2^64, from there on, or none
abbrev pub IsOneNumber : List ℕ → List ℕ → Natural → Type 0
IsOneNumber name text (Small n) = (text ≡ numeral_line name n) × (n < 2 ^ 64)
IsOneNumber name text Large = (n : ℕ) × ((text ≡ numeral_line name n) × (2 ^ 64 ≤ n))
IsOneNumber name text Misspelled = (n : ℕ) → text ≢ numeral_line name n

-- the number below 2^64 that is printed so, or none
abbrev pub IsOneCount : List ℕ → List ℕ → Natural → Type 0
IsOneCount name text (Small n) = text ≡ count_line name n
IsOneCount name text Large = (n : ℕ) → n < 2 ^ 64 → text ≢ count_line name n
IsOneCount name text Misspelled = (n : ℕ) → n < 2 ^ 64 → text ≢ count_line name n
