-- Which matrices make a quadratic program with a parameter.
use Rattle.std.specs.Prelude.{ℕ, ◌+◌, ◌≤◌, List, length}
use Rattle.mpc_space.specs.Matrix.{RationalMatrix, height}
use Rattle.mpc_linear.specs.Shape.{HasShape}

-- from 1 to 4 parameters, one a count; from 1 to 6 unknowns, the rows of h; at most 60 rows
pub record IsProgram (h f y g w : RationalMatrix) (counts : List ℕ) : Type 0 where
  pub some_parameters : 1 ≤ length counts
  pub few_parameters : length counts ≤ 4
  pub some_unknowns : 1 ≤ height h
  pub few_unknowns : height h ≤ 6
  pub few_rows : height g ≤ 60
  pub h_shape : HasShape h (height h) (height h)
  pub f_shape : HasShape f (height h) (length counts + 1)
  pub y_shape : HasShape y (length counts + 1) (length counts + 1)
  pub g_shape : HasShape g (height g) (height h)
  pub w_shape : HasShape w (height g) (length counts + 1)
