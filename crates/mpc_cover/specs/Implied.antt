-- What a system of rows implies, and the independent rows that show it (Farkas 1902, Carathéodory 1911).
use Rattle.std.specs.Prelude.{◌≡◌, ℕ, ◌-◌, false, List, length, map, All}
use Rattle.mpc_exact.specs.Rational.{ℚ, ◌≤ℚ◌}
use Rattle.mpc_space.specs.Vector.{coordinate, dot, vec_mat, AllNonneg, IsIndependent}
use Rattle.mpc_sets.specs.RowSet.{IsSetOfRows}
use Rattle.mpc_rows.specs.declared.systems.Row.{Row}
use Rattle.mpc_rows.specs.LinearSystem.{LinearSystem, HasWidth, height, row_at, MeetsRow, IsPoint}

-- no row of the system is strict, and each has one coefficient for each unknown
pub record IsClosedSystem (s : LinearSystem) : Type 0 where
  pub width : HasWidth s.width s.rows
  pub closed : All (λ r. r.strict ≡ false) s.rows

-- each point of the system meets the row
abbrev pub Implies : LinearSystem → Row → Type 0
Implies s r = (v : List ℚ) → IsPoint s v → MeetsRow v r

-- the two sides of row i, counted from 1
abbrev pub left_side : LinearSystem → ℕ → List ℚ
left_side s i = (row_at s (i - 1)).a

abbrev pub right_side : LinearSystem → ℕ → ℚ
right_side s i = (row_at s (i - 1)).b

-- the row's left side is a combination of those of independent rows of the system, with factors of at least 0, and the same combination of
-- these rows' right sides is at most the row's
pub record IsCarried (s : LinearSystem) (r : Row) : Type 0 where
  pub set : List ℕ
  pub set_of_rows : IsSetOfRows (height s) set
  pub independent : IsIndependent (map (left_side s) set)
  pub factors : List ℚ
  pub one_each : length factors ≡ length set
  pub nonnegative : AllNonneg factors
  pub left : (j : ℕ) → coordinate (vec_mat factors (map (left_side s) set)) j ≡ coordinate r.a j
  pub right : dot factors (map (right_side s) set) ≤ℚ r.b
