-- The law of an active set and its critical region (Bemporad, Morari, Dua and Pistikopoulos 2002).
use Rattle.std.specs.Prelude.{◌≡◌, ℕ, ◌+◌, ◌≤◌, List, length}
use Rattle.mpc_exact.specs.Rational.{ℚ}
use Rattle.mpc_space.specs.Vector.{mat_vec, AllNonneg}
use Rattle.mpc_space.specs.Matrix.{height}
use Rattle.mpc_sets.specs.RowSet.{IsSetOfRows}
use Rattle.mpc_rows.specs.declared.programs.Qp.{Qp}
use Rattle.mpc_rows.specs.declared.laws.Law.{Law}
use Rattle.mpc_linear.specs.Shape.{HasShape}
use Rattle.mpc_rows.specs.ActiveSets.{extended, IsInBox, MeetsRows, MeetsEquations}

-- the unknowns and the multipliers that a law gives at t
abbrev pub moves_at : Law → List ℚ → List ℚ
moves_at law t = mat_vec law.moves.rows (extended t)

abbrev pub mults_at : Law → List ℚ → List ℚ
mults_at law t = mat_vec law.mults.rows (extended t)

-- a set of rows of the program, no more than there are unknowns, and an affine form for each unknown and each member
pub record HasLawShape (qp : Qp) (law : Law) : Type 0 where
  pub set_of_rows : IsSetOfRows (height qp.g) law.set
  pub few : length law.set ≤ height qp.h
  pub moves_shape : HasShape law.moves (height qp.h) (length qp.counts + 1)
  pub mults_shape : HasShape law.mults (length law.set) (length qp.counts + 1)

-- the law's affine forms meet the equations of its set at every t. Where h is definite and the set independent, no other forms do.
pub record IsLaw (qp : Qp) (law : Law) : Type 0 where
  pub shape : HasLawShape qp law
  pub equations : (t : List ℚ) → length t ≡ length qp.counts → MeetsEquations qp law.set t (moves_at law t) (mults_at law t)

-- the law's critical region: the points of the box at which no multiplier is negative and all rows hold
pub record IsInRegion (qp : Qp) (law : Law) (t : List ℚ) : Type 0 where
  pub in_box : IsInBox qp.counts t
  pub nonnegative : AllNonneg (mults_at law t)
  pub meets : MeetsRows qp t (moves_at law t)

pub record HasRegion (qp : Qp) (law : Law) : Type 0 where
  pub point : List ℚ
  pub within : IsInRegion qp law point

-- a law of the set of which P holds
pub record HasLawWith (qp : Qp) (s : List ℕ) (P : Law → Type 0) : Type 0 where
  pub law : Law
  pub of_set : law.set ≡ s
  pub is_law : IsLaw qp law
  pub holds : P law
