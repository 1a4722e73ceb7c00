-- Which numbers of a plant's motion must fit, state by state.
use Rattle.std.specs.Prelude.{ℕ, zero, suc, ◌<◌, ◌≤◌, List, [], ◌∷◌, slice_index_or}
use Rattle.mpc_exact.specs.Rational.{ℚ, ◌+ℚ◌}
use Rattle.mpc_frac.specs.Fits.{FitsSum}
use Rattle.mpc_space.specs.Vector.{coordinate, dot, vec_add, mat_vec}
use Rattle.mpc_space.specs.Matrix.{RationalMatrix}
use Rattle.mpc_linear.specs.Dot.{TermFits, DotFits}
use Rattle.mpc_plant.specs.declared.lists.Coordinate.{Coordinate}
use Rattle.mpc_plant.specs.declared.plants.Plant.{Plant}
use Rattle.mpc_plant.specs.Trajectory.{state_at, move_at}

abbrev pub row_at : RationalMatrix → ℕ → List ℚ
row_at m i = slice_index_or m.rows i []

-- step t and low + step t, coordinate by coordinate
abbrev pub AxesFit : List Coordinate → List ℚ → Type 0
AxesFit [] ts = Unit {0}
AxesFit (axis ∷ grid) [] = Unit {0}
AxesFit (axis ∷ grid) (t ∷ ts) = TermFits axis.low axis.step t × AxesFit grid ts

-- A x + B u + drift
abbrev pub next_of : Plant → List ℚ → List ℚ → List ℚ
next_of plant x u = vec_add (vec_add (mat_vec plant.a.rows x) (mat_vec plant.b.rows u)) plant.drift

-- entry i of A x + B u
abbrev pub moved_entry : Plant → List ℚ → List ℚ → ℕ → ℚ
moved_entry plant x u i = dot (row_at plant.a i) x +ℚ dot (row_at plant.b i) u

-- entry i of A x + B u + drift
abbrev pub next_entry : Plant → List ℚ → List ℚ → ℕ → ℚ
next_entry plant x u i = moved_entry plant x u i +ℚ coordinate plant.drift i

-- its two dots, their sum, and last the sum with the drift
pub record EntryFits (plant : Plant) (x u : List ℚ) (i : ℕ) : Type 0 where
  pub state : DotFits (row_at plant.a i) x
  pub move : DotFits (row_at plant.b i) u
  pub sum : FitsSum (dot (row_at plant.a i) x) (dot (row_at plant.b i) u)
  pub drift : FitsSum (moved_entry plant x u i) (coordinate plant.drift i)

-- each entry of A x + B u + drift
abbrev pub NextFits : Plant → List ℚ → List ℚ → Type 0
NextFits plant x u = (i : ℕ) → i < plant.n → EntryFits plant x u i

-- the state at step k, from the one before it
abbrev pub StateFits : Plant → List ℚ → List (List ℚ) → ℕ → Type 0
StateFits plant t v zero = AxesFit plant.grid t
StateFits plant t v (suc k) = NextFits plant (state_at plant t v k) (move_at v k)

-- ---- the first step at which a number is too wide
-- k is the first of the steps from 0 to the last at which P doesn't hold
pub record IsFirstFailing (P : ℕ → Type 0) (last k : ℕ) : Type 0 where
  pub within : k ≤ last
  pub before : (j : ℕ) → j < k → P j
  pub fails : ¬ P k

-- each state of the motion
abbrev pub StatesFit : Plant → List ℚ → List (List ℚ) → Type 0
StatesFit plant t v = (k : ℕ) → k ≤ plant.horizon → StateFits plant t v k

-- the state at step k is the first that is too wide
abbrev pub IsFirstWideState : Plant → List ℚ → List (List ℚ) → ℕ → Type 0
IsFirstWideState plant t v k = IsFirstFailing (StateFits plant t v) plant.horizon k
