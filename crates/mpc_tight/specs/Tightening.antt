-- By how much a row is tightened, and the numbers on the way to that.
use Rattle.std.specs.Prelude.{ℕ, zero, suc, ◌+◌, ◌-◌, ◌<◌, List, pos}
use Rattle.mpc_exact.specs.Rational.{ℚ, int, ◌+ℚ◌, neg_ℚ}
use Rattle.mpc_frac.specs.Fits.{FitsSum}
use Rattle.mpc_space.specs.Vector.{dot}
use Rattle.mpc_space.specs.Matrix.{RationalMatrix, entry}
use Rattle.mpc_linear.specs.Dot.{DotFits}
use Rattle.mpc_linear.specs.Product.{product_row, DotsFit}
use Rattle.mpc_plant.specs.declared.lists.PlantRow.{PlantRow}
use Rattle.mpc_plant.specs.declared.plants.Plant.{Plant}
use Rattle.mpc_condense.specs.Stages.{IsRow}
use Rattle.mpc_tight.specs.declared.errors.StepError.{StepError}
use Rattle.mpc_tight.specs.declared.errors.StepError.TheVariants.{TooWide, OutOfMemory}
use Rattle.mpc_tight.specs.declared.errors.TightError.{TightError}
use Rattle.mpc_tight.specs.declared.errors.TightError.TheVariants.{Wide, NoMemory}
use Rattle.mpc_tight.specs.Disturbed.{sizes}

-- a'A^j: how the disturbance of a step tells on a'x after j steps more
abbrev pub carried : Plant → List ℚ → ℕ → List ℚ
carried plant a zero = a
carried plant a (suc j) = product_row plant.a (carried plant a j)

-- the most that such a disturbance adds to a'x
abbrev pub effect : Plant → List ℚ → List ℚ → ℕ → ℚ
effect plant noise a j = dot (sizes (carried plant a j)) noise

-- the most that the disturbances of the steps before step k add to a'x[k]
abbrev pub tightening : Plant → List ℚ → List ℚ → ℕ → ℚ
tightening plant noise a zero = int (pos 0)
tightening plant noise a (suc k) = tightening plant noise a k +ℚ effect plant noise a k

-- ---- what must fit
-- the dot of a row's absolute values with the noise, and its sum with the effects before it
pub record AddedFits (sum : ℚ) (row noise : List ℚ) : Type 0 where
  pub products : DotFits (sizes row) noise
  pub added : FitsSum sum (dot (sizes row) noise)

-- the rows that are carried over fewer than k steps, and the sums of their effects
pub record TighteningFits (plant : Plant) (noise a : List ℚ) (k : ℕ) : Type 0 where
  pub carries : (j : ℕ) → j + 1 < k → DotsFit plant.a (carried plant a j)
  pub sums : (j : ℕ) → j < k → AddedFits (tightening plant noise a j) (carried plant a j) noise

-- so for a row at step k with the left side a, and last the difference from the first number of its right side
pub record RowFits (plant : Plant) (noise : List ℚ) (first : ℚ) (a : List ℚ) (k : ℕ) : Type 0 where
  pub tightening_fits : TighteningFits plant noise a k
  pub taken : FitsSum first (neg_ℚ (tightening plant noise a k))

-- the first rows fit; w has the right sides of the plant's program
abbrev pub RowsFit : Plant → List ℚ → RationalMatrix → ℕ → Type 0
RowsFit plant noise w n = (i k : ℕ) (row : PlantRow) → i < n → IsRow plant i k row → RowFits plant noise (entry w i 0) row.x k

-- all rows before this one, from 1, fit, and this one doesn't
pub record IsWideRow (plant : Plant) (noise : List ℚ) (w : RationalMatrix) (i : ℕ) : Type 0 where
  pub some : 0 < i
  pub before : RowsFit plant noise w (i - 1)
  pub step : ℕ
  pub row : PlantRow
  pub is_row : IsRow plant (i - 1) step row
  pub here : ¬ RowFits plant noise (entry w (i - 1) 0) row.x step

-- where the error is that a number is too wide
abbrev pub IfTooWide : Type 0 → StepError → Type 0
IfTooWide P TooWide = P
IfTooWide P OutOfMemory = Unit {0}

-- why nothing is tightened; nothing is said of want of memory
abbrev pub IsCause : Plant → List ℚ → RationalMatrix → TightError → Type 0
IsCause plant noise w (Wide row) = IsWideRow plant noise w row
IsCause plant noise w NoMemory = Unit {0}
