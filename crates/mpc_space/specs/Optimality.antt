-- Convex quadratic programs: the least of z'h z + 2 z'f under rows g z <= w (Karush 1939, Kuhn and Tucker 1951).
use Rattle.std.specs.Prelude.{◌≡◌, List, pos}
use Rattle.mpc_exact.specs.Rational.{ℚ, int, ◌+ℚ◌, ◌*ℚ◌}
use Rattle.mpc_space.specs.Vector.{dot, vec_add, mat_vec, vec_mat, quadratic, IsZero, AllNonneg}

-- z'h z + 2 z'f
abbrev pub objective : List (List ℚ) → List ℚ → List ℚ → ℚ
objective h f z = quadratic h z +ℚ int (pos 2) *ℚ dot z f

-- the conditions on a point z and multipliers l, one a row
pub record IsStationary (h : List (List ℚ)) (f : List ℚ) (g : List (List ℚ)) (w z l : List ℚ) : Type 0 where
  -- h z + f + g'l is 0
  pub gradient : IsZero (vec_add (vec_add (mat_vec h z) f) (vec_mat l g))
  pub nonnegative : AllNonneg l
  -- a row with slack has the multiplier 0: l'(g z) is l'w
  pub complementary : dot l (mat_vec g z) ≡ dot l w
