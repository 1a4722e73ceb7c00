-- Whole numbers: their sums, their signs, and room for sums of their products.
use Rattle.std.specs.Prelude.{ℕ, zero, suc, ◌*◌, ◌≤◌, ◌^◌, List, ℤ, pos, ◌+ℤ◌, neg_ℤ, negsuc}
use Rattle.mpc_scaled.specs.Scaled.{IsSmall}

-- f 0 + f 1 + .. + f (n - 1)
unfoldable pub whole_total : ℕ → (ℕ → ℤ) → ℤ
whole_total zero f = pos 0
whole_total (suc n) f = whole_total n f +ℤ f n

-- z with the sign of q z
abbrev pub turned : ℤ → ℤ → ℤ
turned (pos n) z = z
turned (negsuc n) z = neg_ℤ z

-- so many products of these numbers with numbers of at most such a size have a sum of at most 2^124
pub record HasRoom (width top : ℕ) (a : List ℤ) : Type 0 where
  pub most : ℕ
  pub each : IsSmall most a
  pub room : width * (most * top) ≤ 2 ^ 124
