-- The noise, which is the most by which a disturbance moves each coordinate of the state in one step, and the line that spells it.
use Rattle.std.specs.Prelude.{◌≡◌, ℕ, List, [], ◌∷◌, length, ◌==◌, if◌then◌else◌, Option, Some, None, option_map, option_and_then}
use Rattle.std.specs.Str.Lines.{lines}
use Rattle.mpc_exact.specs.Rational.{ℚ}
use Rattle.mpc_space.specs.Vector.{AllNonneg}
use Rattle.mpc_words.specs.Words.{words_of}
use Rattle.mpc_plant.specs.Decimals.{plain_number}
use Rattle.mpc_tight.specs.declared.errors.NoiseError.{NoiseError}
use Rattle.mpc_tight.specs.declared.errors.NoiseError.TheVariants.{BadNoise, NoMemory}

-- one number a state, none of them negative
pub record IsNoise (noise : List ℚ) (n : ℕ) : Type 0 where
  pub size : length noise ≡ n
  pub nonneg : AllNonneg noise

-- ---- its line
-- the numbers of words, each of which has to spell one
abbrev pub numbers_of : List (List ℕ) → Option (List ℚ)
numbers_of [] = Some []
numbers_of (word ∷ words) = option_and_then (λ x. option_map (λ xs. x ∷ xs) (numbers_of words)) (plain_number word)

-- the numbers of n words
abbrev pub sized_numbers : ℕ → List (List ℕ) → Option (List ℚ)
sized_numbers n words = if length words == n then numbers_of words else None

-- the line, where there is one line alone
abbrev pub only_line : List (List ℕ) → Option (List ℕ)
only_line [] = None
only_line (line ∷ []) = Some line
only_line (line ∷ other ∷ more) = None

-- the words of a line, with one blank between two; an empty line has none
abbrev pub words_in : List ℕ → List (List ℕ)
words_in [] = []
words_in (c ∷ line) = words_of (c ∷ line)

-- the n numbers of a text of one line
unfoldable pub noise_of : List ℕ → ℕ → Option (List ℚ)
noise_of text n = option_and_then (λ line. sized_numbers n (words_in line)) (only_line (lines text))

-- where the bytes are at fault, and not the memory
abbrev pub IfBadNoise : Type 0 → NoiseError → Type 0
IfBadNoise P BadNoise = P
IfBadNoise P NoMemory = Unit {0}
