-- Theorems of the words that numbers are spelled by, and of the lines that state them.
use Rattle.std.specs.Prelude.{◌≡◌, ℕ, ◌^◌, ◌<◌, List, ℤ, unsigned_abs, decimal}
use Rattle.std.specs.Fmt.{signed_decimal}
use Rattle.mpc_exact.specs.Rational.{ℚ}
use Rattle.mpc_frac.specs.Fits.{FitsFrac}
use Rattle.mpc_frac.specs.Text.{text_of}
use Rattle.mpc_linear.specs.Whole.{AreSmall}
use Rattle.mpc_words.specs.Numerals.{numeral}
use Rattle.mpc_words.specs.Words.{IsLineOf, IsWord}
use Rattle.mpc_grammar.specs.Lines.{integers_line, fractions_line}
use Rattle.mpc_grammar.specs.PlantGrammar.{AllFit}

-- each number is spelled by a word, and no other number is spelled so
pub record WordTheorems : Type 0 where
  pub one_list : (text first other : List ℕ) (words others : List (List ℕ)) → IsLineOf text first words → IsLineOf text other others → words ≡ others
  pub one_natural : (m n : ℕ) → numeral m ≡ numeral n → m ≡ n
  pub natural_word : (n : ℕ) → IsWord (numeral n)
  pub printed : (n : ℕ) → n < 10 ^ 64 → numeral n ≡ decimal n
  pub one_integer : (y z : ℤ) → unsigned_abs y < 10 ^ 64 → unsigned_abs z < 10 ^ 64 → signed_decimal y ≡ signed_decimal z → y ≡ z
  pub integer_word : (z : ℤ) → unsigned_abs z < 10 ^ 64 → IsWord (signed_decimal z)
  pub one_fraction : (x y : ℚ) → FitsFrac x → FitsFrac y → text_of x ≡ text_of y → x ≡ y
  pub fraction_word : (x : ℚ) → FitsFrac x → IsWord (text_of x)

-- a line states one list of fractions only
abbrev pub OneFractions : Type 0
OneFractions = (name : List ℕ) (xs ys : List ℚ) → AllFit xs → AllFit ys → fractions_line name xs ≡ fractions_line name ys → xs ≡ ys

-- a line states one list of whole numbers only
abbrev pub OneIntegers : Type 0
OneIntegers = (name : List ℕ) (xs ys : List ℤ) → AreSmall xs → AreSmall ys → integers_line name xs ≡ integers_line name ys → xs ≡ ys
