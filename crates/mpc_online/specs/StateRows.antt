-- The rows of a program at a state of its box.
use Rattle.std.specs.Prelude.{ℕ, ◌-◌, ◌<◌, ◌≤◌, false, List, map, pos, Option, Some, None}
use Rattle.std.specs.List.{range_with_len}
use Rattle.mpc_exact.specs.Rational.{ℚ, int, ◌<ℚ◌}
use Rattle.mpc_space.specs.Vector.{coordinate, dot, mat_vec}
use Rattle.mpc_space.specs.Matrix.{height}
use Rattle.mpc_rows.specs.declared.programs.Qp.{Qp}
use Rattle.mpc_rows.specs.declared.systems.Row.{Row}
use Rattle.mpc_rows.specs.LinearSystem.{LinearSystem}
use Rattle.mpc_rows.specs.ActiveSets.{extended, row_of}

-- counts as a point of the box
abbrev pub point_of : List ℕ → List ℚ
point_of counts = map (λ k. int (pos k)) counts

-- the right sides w c of the rows at t
abbrev pub sides_at : Qp → List ℚ → List ℚ
sides_at qp t = mat_vec qp.w.rows (extended t)

-- the left side of row i, counted from 1, and its right side among b
abbrev pub level : Qp → List ℚ → ℕ → ℚ
level qp z i = dot (row_of qp.g.rows i) z

abbrev pub side : List ℚ → ℕ → ℚ
side b i = coordinate b (i - 1)

-- the rows g_i z <= w_i c in the unknowns z, with the numbers at t put in
abbrev pub state_row : Qp → List ℚ → ℕ → Row
state_row qp t i = record { a = row_of qp.g.rows i; b = side (sides_at qp t) i; strict = false }

abbrev pub state_system : Qp → List ℚ → LinearSystem
state_system qp t = record { width = height qp.h; rows = map (state_row qp t) (range_with_len 1 (height qp.g)) }

-- ---- rows g_i z <= b_i that z doesn't meet
pub record IsViolated (qp : Qp) (b z : List ℚ) (i : ℕ) : Type 0 where
  pub above : side b i <ℚ level qp z i

-- r is the first of them
pub record IsFirstOutside (qp : Qp) (b z : List ℚ) (r : ℕ) : Type 0 where
  pub from_one : 1 ≤ r
  pub to_last : r ≤ height qp.g
  pub violated : IsViolated qp b z r
  pub before : (j : ℕ) → 1 ≤ j → j < r → ¬ IsViolated qp b z j

-- the first of them, if there is one
abbrev pub IsFirstViolated : Qp → List ℚ → List ℚ → Option ℕ → Type 0
IsFirstViolated qp b z None = (i : ℕ) → 1 ≤ i → i ≤ height qp.g → ¬ IsViolated qp b z i
IsFirstViolated qp b z (Some r) = IsFirstOutside qp b z r
