-- Moves as they cross to C.
use Rattle.std.specs.Prelude.{ℤ, pos}
use Rattle.mpc_exact.specs.Rational.{ℚ}
use Rattle.mpc_block.specs.declared.replies.Move.{Move}
use Rattle.mpc_block.specs.BlockReplies.{num_of, den_of}

-- a numerator and a denominator
pub record Ratio : Type 0 where
  pub num : ℤ
  pub den : ℤ

abbrev pub ratio : ℤ → ℤ → Ratio
ratio num den = record { num = num; den = den }

abbrev pub ratio_of : Move → Ratio
ratio_of step = ratio (num_of step) (den_of step)

-- a number in lowest terms
abbrev pub lowest : ℚ → Ratio
lowest x = ratio x.numer (pos x.denom)

-- what stands behind the last one
abbrev pub no_move : Move
no_move = record { num_low = 0; num_high = 0; den_low = 0; den_high = 0 }
