-- What a swept table says of the systems of its parts.
use Rattle.std.specs.Prelude.{◌≡◌, ◌≢◌, ℕ, suc, ◌+◌, ◌<◌, ◌≤◌, ◌++◌, ◌∷◌, [], List, length, take, pos}
use Rattle.mpc_exact.specs.Rational.{int, ◌*ℚ◌, ◌-ℚ◌}
use Rattle.mpc_space.specs.Matrix.{RationalMatrix, entry}
use Rattle.mpc_space.specs.Total.{total}
use Rattle.mpc_linear.specs.Elimination.{Table}
use Rattle.mpc_linear.specs.Shape.{HasShape}
use Rattle.mpc_linear.specs.Solution.{IsAnswer, FitsTo}
use Rattle.mpc_linear.specs.declared.elimination.Solved.TheVariants.{Unique, Dependent}
use Rattle.mpc_sweep.specs.declared.numbers.Swept.{Swept}
use Rattle.mpc_sweep.specs.Numbers.{number, IsSwept}
use Rattle.mpc_sweep.specs.Sweeps.{swept, pivot_at, HasPivots, AreRising, SweepsFit}

-- m X = rhs has the rows and the columns of the table with these numbers, and so many columns from this one on as right sides
pub record IsPartOf (t : Table) (ps : List ℕ) (first count : ℕ) (m rhs : RationalMatrix) : Type 0 where
  pub shape : HasShape m (length ps) (length ps)
  pub right_shape : HasShape rhs (length ps) count
  pub entries : (i j : ℕ) → i < length ps → j < length ps → entry m i j ≡ t (pivot_at ps i) (pivot_at ps j)
  pub right_entries : (i j : ℕ) → i < length ps → j < count → entry rhs i j ≡ t (pivot_at ps i) (first + j)

-- the right sides of x's rows stand in the swept table
pub record IsSolutionOf (t : Table) (ps : List ℕ) (first count : ℕ) (x : RationalMatrix) : Type 0 where
  pub shape : HasShape x (length ps) count
  pub entries : (i j : ℕ) → i < length ps → j < count → entry x i j ≡ swept t ps (pivot_at ps i) (first + j)

-- the rows rise, stand within so many rows, and before the right sides
pub record AreRowsOf (rows : ℕ) (ps : List ℕ) (first : ℕ) : Type 0 where
  pub rising : AreRising ps
  pub within : (k : ℕ) → k < length ps → pivot_at ps k < rows
  pub in_front : (k : ℕ) → k < length ps → pivot_at ps k < first

-- once a table is swept at all rows of a part, it shows the solution of the part's system, and all numbers of its elimination fit
abbrev pub PartIsSolved : Type 0
PartIsSolved = (t : Table) (ps : List ℕ) (rows first count : ℕ) (m rhs x : RationalMatrix) → AreRowsOf rows ps first → IsPartOf t ps first count m rhs → HasPivots t ps → SweepsFit t ps rows (first + count) first
    → IsSolutionOf t ps first count x → IsAnswer m rhs (Unique x) × FitsTo m rhs (Unique x)

-- once it is swept at all rows but the last, and shows 0 on the diagonal there, the part's last column depends on those before it
abbrev pub PartIsDependent : Type 0
PartIsDependent = (t : Table) (ps : List ℕ) (rows first count k : ℕ) (m rhs : RationalMatrix) → AreRowsOf rows ps first → IsPartOf t ps first count m rhs → length ps ≡ suc k → HasPivots t (take k ps)
    → SweepsFit t (take k ps) rows (first + count) (pivot_at ps k) → swept t (take k ps) (pivot_at ps k) (pivot_at ps k) ≡ int (pos 0)
    → IsAnswer m rhs (Dependent (suc k)) × FitsTo m rhs (Dependent (suc k))

-- a row that isn't swept has lost the swept rows as often as its own entries say
abbrev pub RowIsReduced : Type 0
RowIsReduced = (t : Table) (ps : List ℕ) (i j : ℕ) → AreRising ps → HasPivots t ps → ((k : ℕ) → k < length ps → i ≢ pivot_at ps k)
    → swept t ps i j ≡ t i j -ℚ total (length ps) (λ k. t i (pivot_at ps k) *ℚ swept t ps (pivot_at ps k) j)

-- a row behind those that are swept, whose number on the diagonal isn't 0, can be swept next, and all numbers of its sweep fit, in the columns
-- from any one behind it on
abbrev pub NextSweepFits : Type 0
NextSweepFits = (t : Table) (ps : List ℕ) (rows columns from first p : ℕ) (s : Swept) → IsSwept t ps rows columns from s → p < rows → p < columns → from ≤ p → p < first → ((k : ℕ) → k < length ps → pivot_at ps k < p) → number s p p ≢ pos 0
    → HasPivots t (ps ++ p ∷ []) × SweepsFit t (ps ++ p ∷ []) rows columns first
