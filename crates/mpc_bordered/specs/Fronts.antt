-- The elimination of the first columns of a table, each with its pivot in its own row, and which of its numbers must fit.
use Rattle.std.specs.Prelude.{◌≡◌, ◌≢◌, ℕ, zero, suc, ◌<◌, pos}
use Rattle.mpc_exact.specs.Rational.{int, ◌*ℚ◌, ◌/ℚ◌, neg_ℚ}
use Rattle.mpc_frac.specs.Fits.{FitsFrac, FitsSum}
use Rattle.mpc_linear.specs.Elimination.{Table, reduced}

-- the table after the first columns
unfoldable pub front : Table → ℕ → Table
front t zero = t
front t (suc c) = reduced c (front t c)

-- the pivots of the first columns stand in their own rows
abbrev pub HasFront : Table → ℕ → Type 0
HasFront t u = (c : ℕ) → c < u → front t c c c ≢ int (pos 0)

-- the operations of column c that form the entry in row i and column j, behind column c
pub record EntryFits (c : ℕ) (t : Table) (i j : ℕ) : Type 0 where
  pub quotient : i ≡ c → FitsFrac (t c j /ℚ t c c)
  pub product : i ≢ c → t i c ≢ int (pos 0) → FitsFrac (t i c *ℚ (t c j /ℚ t c c))
  pub difference : i ≢ c → t i c ≢ int (pos 0) → FitsSum (t i j) (neg_ℚ (t i c *ℚ (t c j /ℚ t c c)))
