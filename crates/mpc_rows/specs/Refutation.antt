-- Multipliers that show that a system has no point (Farkas, Motzkin), and the sums by which this is tested.
use Rattle.std.specs.Prelude.{◌≡◌, ℕ, ◌<◌, true, ◌⊎◌, List, map, slice_get, Some, pos}
use Rattle.mpc_exact.specs.Rational.{ℚ, int, ◌<ℚ◌}
use Rattle.mpc_space.specs.Vector.{coordinate, dot, AllNonneg}
use Rattle.mpc_linear.specs.Dot.{DotFits}
use Rattle.mpc_rows.specs.declared.systems.Row.{Row}
use Rattle.mpc_rows.specs.LinearSystem.{LinearSystem}

-- the coefficients of the rows on unknown j, counted from 0
abbrev pub coefficients_on : ℕ → List Row → List ℚ
coefficients_on j rows = map (λ r. coordinate r.a j) rows

abbrev pub right_sides : List Row → List ℚ
right_sides rows = map (λ r. r.b) rows

-- the left sides, each times its multiplier, sum to 0: on each unknown
pub record CombinesToZero (s : LinearSystem) (m : List ℚ) : Type 0 where
  pub on : (j : ℕ) → j < s.width → dot m (coefficients_on j s.rows) ≡ int (pos 0)

-- a strict row has a positive multiplier
pub record WeighsStrict (rows : List Row) (m : List ℚ) : Type 0 where
  pub place : ℕ
  pub row : Row
  pub is : slice_get rows place ≡ Some row
  pub strict : row.strict ≡ true
  pub positive : int (pos 0) <ℚ coordinate m place

-- no multiplier is negative, the left sides sum to 0, and the right sides sum below 0, or to 0 while a strict row counts
pub record Refutes (s : LinearSystem) (m : List ℚ) : Type 0 where
  pub nonneg : AllNonneg m
  pub left : CombinesToZero s m
  pub right : (dot m (right_sides s.rows) <ℚ int (pos 0)) ⊎ ((dot m (right_sides s.rows) ≡ int (pos 0)) × WeighsStrict s.rows m)

-- ---- the numbers that must fit
-- each product of a multiplier and a coefficient, and each partial sum of these, from left to right
pub record ColumnsFit (s : LinearSystem) (m : List ℚ) : Type 0 where
  pub on : (j : ℕ) → j < s.width → DotFits m (coefficients_on j s.rows)

-- and of the multipliers and the right sides
pub record SumsFit (s : LinearSystem) (m : List ℚ) : Type 0 where
  pub columns : ColumnsFit s m
  pub sides : DotFits m (right_sides s.rows)
