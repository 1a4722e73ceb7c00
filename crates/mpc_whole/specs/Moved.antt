-- How the numbers of the values of the unknowns move with a pivot, in each of the two parts of the values.
use Rattle.std.specs.Prelude.{◌≡◌, ℕ, ◌+◌, ◌<◌, ◌⊎◌, List, ℤ, pos, ◌+ℤ◌, ◌*ℤ◌, neg_ℤ}
use Rattle.mpc_exact.specs.Rational.{frac}
use Rattle.mpc_rows.specs.LinearSystem.{LinearSystem, height}
use Rattle.mpc_rows.specs.Run.{Position, IsTableau, bound, value}
use Rattle.mpc_runs.specs.declared.variables.Seat.{Seat}
use Rattle.mpc_runs.specs.Table.{IsSeated, AreNonbasic}
use Rattle.mpc_runs.specs.WholeNumbers.{whole_total}
use Rattle.mpc_whole.specs.Whole.{IsForm, AreValues}
use Rattle.mpc_scaled.specs.Scaled.{whole_at, whole_cell, scale_at, HasSides}

-- by how much the value of side i, from the numbers c of the unknowns, is above its bound g
abbrev pub excess : ℕ → List ℤ → ℕ → ℤ → ℕ → List ℤ → ℤ
excess width a i g den c = whole_total width (λ j. whole_cell width a i j *ℤ whole_at c j) +ℤ neg_ℤ (g *ℤ pos den)

-- one part of the values, where side i leaves, with the bound g in that part, and the column e enters: v has the numbers after the pivot,
-- den is the denominator before it and size the one after
pub record IsMoved (width : ℕ) (a : List ℤ) (i : ℕ) (g : ℤ) (v : List ℤ) (e den size : ℕ) (old new : List ℤ) : Type 0 where
  pub each : (j : ℕ) → j < width → whole_at new j *ℤ pos den ≡ (whole_at old j *ℤ pos size) +ℤ neg_ℤ (whole_cell width v j e *ℤ excess width a i g den old)

-- both parts, where the bound is (g, h)
pub record AreMoved (width : ℕ) (a : List ℤ) (i : ℕ) (g h : ℤ) (v : List ℤ) (e den size : ℕ) (old_1 old_2 new_1 new_2 : List ℤ) : Type 0 where
  pub first : IsMoved width a i g v e den size old_1 new_1
  pub second : IsMoved width a i h v e den size old_2 new_2

-- the values at each position that the numbers stand for
pub record AreFormed (s : LinearSystem) (n : ℕ) (seats : List Seat) (k : List ℕ) (b : List ℤ) (v c_1 c_2 : List ℤ) : Type 0 where
  pub each : (p : Position) (d : ℕ) → IsTableau p → IsForm s n seats k d v p → HasSides s k b → AreValues s p d c_1 c_2

-- the value of the unknown j at each position that the numbers v stand for, where these variables stand in the columns
pub record IsValueAt (s : LinearSystem) (n : ℕ) (k : List ℕ) (b : List ℤ) (nonbasic : List ℕ) (v : List ℤ) (j : ℕ) (z_1 z_2 : ℤ) : Type 0 where
  pub first : (seats : List Seat) → IsSeated (height s) s.width n seats → AreNonbasic s.width seats nonbasic → (p : Position) (d : ℕ) → IsTableau p → IsForm s n seats k d v p → HasSides s k b → (value s p j).first ≡ frac z_1 d
  pub second : (seats : List Seat) → IsSeated (height s) s.width n seats → AreNonbasic s.width seats nonbasic → (p : Position) (d : ℕ) → IsTableau p → IsForm s n seats k d v p → HasSides s k b → (value s p j).second ≡ frac z_2 d

-- after the pivot the values are moved, by both parts of the bound of side i, or formed anew
abbrev pub AreFollowed : LinearSystem → ℕ → List Seat → List ℕ → List ℤ → List ℤ → List ℤ → ℕ → ℕ → ℕ → ℕ → List ℤ → List ℤ → List ℤ → List ℤ → Type 0
AreFollowed s n seats k a b v i e den size old_1 old_2 new_1 new_2 =
    ((h : ℤ) × ((bound s (s.width + i)).second ≡ frac h (scale_at k (s.width + i))) × AreMoved s.width a i (whole_at b i) h v e den size old_1 old_2 new_1 new_2)
    ⊎ AreFormed s n seats k b v new_1 new_2
