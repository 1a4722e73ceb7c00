-- What a run ends with.
use Rattle.std.specs.Prelude.{◌≡◌, ℕ, ◌<◌, List, length, slice_get, Some}
use Rattle.mpc_exact.specs.Rational.{ℚ}
use Rattle.mpc_space.specs.Vector.{coordinate}
use Rattle.mpc_rows.specs.LinearSystem.{LinearSystem, height}
use Rattle.mpc_rows.specs.Run.{Position, has_point, is_refuted, value, turn, last_position, multiplier}
use Rattle.mpc_runs.specs.declared.End.{End}
use Rattle.mpc_runs.specs.declared.End.TheVariants.{Point, Refuted}

-- the pairs are the values of the unknowns at a position
pub record IsValues (s : LinearSystem) (p : Position) (v : List (ℚ × ℚ)) : Type 0 where
  pub size : length v ≡ s.width
  pub at : (j : ℕ) → j < s.width → (q : ℚ × ℚ) × (slice_get v j ≡ Some q) × (q.0 ≡ (value s p j).first) × (q.1 ≡ (value s p j).second)

-- the multipliers are those of the row of l at a position
pub record IsMultipliers (s : LinearSystem) (p : Position) (l : ℕ) (m : List ℚ) : Type 0 where
  pub size : length m ≡ height s
  pub at : (i : ℕ) → i < height s → coordinate m i ≡ multiplier s p l i

-- the run ends with these pairs as its point, or refuted with these multipliers
pub record EndsWithPoint (s : LinearSystem) (v : List (ℚ × ℚ)) : Type 0 where
  pub ends : turn s (last_position s) ≡ has_point
  pub values : IsValues s (last_position s) v

pub record EndsRefuted (s : LinearSystem) (m : List ℚ) : Type 0 where
  pub row : ℕ
  pub ends : turn s (last_position s) ≡ is_refuted row
  pub multipliers : IsMultipliers s (last_position s) row m

abbrev pub IsEnd : LinearSystem → End → Type 0
IsEnd s (Point v) = EndsWithPoint s v
IsEnd s (Refuted m) = EndsRefuted s m
