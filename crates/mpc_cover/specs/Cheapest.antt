-- The cheapest admissible choice of the unknowns at a point of the box, and its multipliers.
use Rattle.std.specs.Prelude.{◌≡◌, ◌≢◌, ℕ, List, length}
use Rattle.mpc_exact.specs.Rational.{ℚ, ◌<ℚ◌}
use Rattle.mpc_space.specs.Vector.{mat_vec, AllNonneg}
use Rattle.mpc_space.specs.Matrix.{height}
use Rattle.mpc_space.specs.Optimality.{objective}
use Rattle.mpc_sets.specs.RowSet.{IsSetOfRows}
use Rattle.mpc_rows.specs.declared.programs.Qp.{Qp}
use Rattle.mpc_rows.specs.ActiveSets.{extended, IsFeasible, IsIndependentSet, MeetsEquations}

-- what z costs at t beyond the part that no choice changes: z'h z + 2 z'f c
abbrev pub cost_at : Qp → List ℚ → List ℚ → ℚ
cost_at qp t z = objective qp.h.rows (mat_vec qp.f.rows (extended t)) z

-- z is admissible at t, and every other admissible choice costs more
pub record IsCheapest (qp : Qp) (t z : List ℚ) : Type 0 where
  pub feasible : IsFeasible qp t z
  pub others : (x : List ℚ) → IsFeasible qp t x → x ≢ z → cost_at qp t z <ℚ cost_at qp t x

-- Karush, Kuhn and Tucker's conditions at z on independent rows: these hold with equality, and their multipliers are at least 0
pub record HasMultipliers (qp : Qp) (t z : List ℚ) : Type 0 where
  pub set : List ℕ
  pub set_of_rows : IsSetOfRows (height qp.g) set
  pub independent : IsIndependentSet qp set
  pub multipliers : List ℚ
  pub one_each : length multipliers ≡ length set
  pub nonnegative : AllNonneg multipliers
  pub equations : MeetsEquations qp set t z multipliers
