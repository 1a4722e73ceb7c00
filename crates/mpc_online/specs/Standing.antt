-- What holds at every position of the method.
use Rattle.std.specs.Prelude.{◌≡◌, ℕ, ◌≤◌, List, length, pos, None}
use Rattle.mpc_exact.specs.Rational.{ℚ, int, ◌+ℚ◌}
use Rattle.mpc_space.specs.Vector.{coordinate, dot, mat_vec, vec_mat, AllNonneg}
use Rattle.mpc_space.specs.Matrix.{height}
use Rattle.mpc_sets.specs.RowSet.{IsSetOfRows, Among}
use Rattle.mpc_rows.specs.declared.programs.Qp.{Qp}
use Rattle.mpc_rows.specs.ActiveSets.{extended, rows_of, IsIndependentSet}
use Rattle.mpc_rows.specs.NumberedSystems.{RefutesBy}
use Rattle.mpc_online.specs.declared.Online.{Online}
use Rattle.mpc_online.specs.declared.Online.TheVariants.{Best, Refuted}
use Rattle.mpc_online.specs.StateRows.{sides_at, level, side, state_system, IsFirstViolated}
use Rattle.mpc_online.specs.Positions.{Position}

-- a set of independent rows with a multiplier for each member, and another row
pub record IsPosition (qp : Qp) (p : Position) : Type 0 where
  pub size : length p.point ≡ height qp.h
  pub set_of_rows : IsSetOfRows (height qp.g) p.set
  pub independent : IsIndependentSet qp p.set
  pub one_each : length p.multipliers ≡ length p.set
  pub from_one : 1 ≤ p.row
  pub to_last : p.row ≤ height qp.g

-- The members hold with equality and balance the cost with multipliers that aren't negative (Karush 1939, Kuhn and Tucker 1951): the point
-- is the cheapest of those that meet the members' rows.
pub record IsCorner (qp : Qp) (t : List ℚ) (p : Position) : Type 0 where
  pub size : length p.point ≡ height qp.h
  pub set_of_rows : IsSetOfRows (height qp.g) p.set
  pub independent : IsIndependentSet qp p.set
  pub one_each : length p.multipliers ≡ length p.set
  pub nonnegative : AllNonneg p.multipliers
  pub tight : (i : ℕ) → Among i p.set → level qp p.point i ≡ side (sides_at qp t) i
  pub balanced : (y : List ℚ) → dot y (mat_vec qp.h.rows p.point) +ℚ dot y (mat_vec qp.f.rows (extended t)) +ℚ dot y (vec_mat p.multipliers (rows_of qp.g.rows p.set)) ≡ int (pos 0)

-- the answer is a corner that meets every row; or multipliers, one for each row, that refute the rows at t
abbrev pub IsAnswer : Qp → List ℚ → Online → Type 0
IsAnswer qp t (Best z) = (p : Position) × IsCorner qp t p × (p.point ≡ z) × IsFirstViolated qp (sides_at qp t) z None
IsAnswer qp t (Refuted m) = (length m ≡ height qp.g) × RefutesBy (state_system qp t) (coordinate m)
