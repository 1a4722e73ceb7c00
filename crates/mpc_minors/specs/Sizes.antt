-- Sizes of whole numbers with which no operation of a run is wide.
use Rattle.std.specs.Prelude.{ℕ, zero, suc, ◌*◌, ◌≤◌, ◌^◌}

-- n! e^n: at least the determinant of n rows of numbers up to e, as the sum of its n! products
abbrev pub most_determinant : ℕ → ℕ → ℕ
most_determinant zero e = 1
most_determinant (suc n) e = suc n * (e * most_determinant n e)

-- there is room for the determinants of rows in one to four unknowns times their scales, and for a sum of so many right sides
pub record LeaveRoom (width variables entry side scale : ℕ) : Type 0 where
  pub some : 1 ≤ width
  pub few : width ≤ 4
  pub determinants : most_determinant width entry * scale ≤ 2 ^ 62
  pub sides : variables * side ≤ 2 ^ 62
