-- The head of an input cut at its first line `noise`: the plant's file before that line, and the text of the noise behind it.
use Rattle.std.specs.Prelude.{ℕ, Option, option_and_then, List, codes}
use Rattle.mpc_exact.specs.Rational.{ℚ}
use Rattle.mpc_tight.specs.Noise.{noise_of}
use Rattle.mpc_table.specs.Cut.{head_of}
use Rattle.mpc_words.specs.WholeLines.{whole_lines, before_line, behind_line}

-- of a head: the text before the line, or all of it where there is none, and the text behind it, where there is one
abbrev pub plant_part : List ℕ → List ℕ
plant_part head = before_line (codes "noise") (whole_lines head)

abbrev pub noise_part : List ℕ → Option (List ℕ)
noise_part head = behind_line (codes "noise") (whole_lines head)

-- the noise of an input for n states: there is a line `noise`, and what stands behind it in the head spells n numbers
abbrev pub noise_from : Option (List ℕ) → ℕ → Option (List ℚ)
noise_from part n = option_and_then (λ text. noise_of text n) part

abbrev pub noise_in : List ℕ → ℕ → Option (List ℚ)
noise_in input n = noise_from (noise_part (head_of input)) n
