-- Sets of rows of a quadratic program: which are independent, which can be reached, and the equations of an active set (Bemporad, Morari,
-- Dua and Pistikopoulos 2002; Gupta, Bhartiya and Nataraj 2011). The rows of a program are counted from 1.
use Rattle.std.specs.Prelude.{◌≡◌, ℕ, ◌-◌, List, [], ◌∷◌, length, map, get_or, pos}
use Rattle.mpc_exact.specs.Rational.{ℚ, int, ◌≤ℚ◌}
use Rattle.mpc_space.specs.Vector.{vec_add, mat_vec, vec_mat, IsZero, AllAtMost, IsIndependent}
use Rattle.mpc_space.specs.Matrix.{height}
use Rattle.mpc_rows.specs.declared.programs.Qp.{Qp}

-- the extended counts (1, t_1, .., t_n)
abbrev pub extended : List ℚ → List ℚ
extended t = int (pos 1) ∷ t

-- a point of the box: one fraction for each count, from 0 to that count
abbrev pub IsInBox : List ℕ → List ℚ → Type 0
IsInBox [] [] = Unit {0}
IsInBox [] (t ∷ ts) = ⊥
IsInBox (count ∷ counts) [] = ⊥
IsInBox (count ∷ counts) (t ∷ ts) = (int (pos 0) ≤ℚ t) × (t ≤ℚ int (pos count)) × IsInBox counts ts

-- row i, counted from 1
abbrev pub row_of : List (List ℚ) → ℕ → List ℚ
row_of m i = get_or m (i - 1) []

-- the rows of a set
abbrev pub rows_of : List (List ℚ) → List ℕ → List (List ℚ)
rows_of m s = map (row_of m) s

-- z satisfies all rows at t
abbrev pub MeetsRows : Qp → List ℚ → List ℚ → Type 0
MeetsRows qp t z = AllAtMost (mat_vec qp.g.rows z) (mat_vec qp.w.rows (extended t))

-- z satisfies the rows of s at t with equality
abbrev pub IsTight : Qp → List ℕ → List ℚ → List ℚ → Type 0
IsTight qp s t z = mat_vec (rows_of qp.g.rows s) z ≡ mat_vec (rows_of qp.w.rows s) (extended t)

-- z is an admissible choice of the unknowns at the point t of the box
pub record IsFeasible (qp : Qp) (t z : List ℚ) : Type 0 where
  pub in_box : IsInBox qp.counts t
  pub size : length z ≡ height qp.h
  pub meets : MeetsRows qp t z

-- only the trivial combination of the set's rows is 0
abbrev pub IsIndependentSet : Qp → List ℕ → Type 0
IsIndependentSet qp s = IsIndependent (rows_of qp.g.rows s)

-- at some point of the box some z satisfies all rows, those of the set with equality
pub record IsReachable (qp : Qp) (s : List ℕ) : Type 0 where
  pub state : List ℚ
  pub unknowns : List ℚ
  pub feasible : IsFeasible qp state unknowns
  pub tight : IsTight qp s state unknowns

-- the equations of the set at t, with one multiplier l for each member: h z + f c + g_S'l is 0, and the members' rows hold with equality
pub record MeetsEquations (qp : Qp) (s : List ℕ) (t z l : List ℚ) : Type 0 where
  pub stationary : IsZero (vec_add (vec_add (mat_vec qp.h.rows z) (mat_vec qp.f.rows (extended t))) (vec_mat l (rows_of qp.g.rows s)))
  pub tight : IsTight qp s t z
