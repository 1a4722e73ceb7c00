-- What holds of every tightened program.
use Rattle.std.specs.Prelude.{◌≡◌, ℕ, List}
use Rattle.mpc_exact.specs.Rational.{ℚ}
use Rattle.mpc_space.specs.Matrix.{RationalMatrix}
use Rattle.mpc_plant.specs.declared.plants.Plant.{Plant}
use Rattle.mpc_rows.specs.declared.programs.Qp.{Qp}
use Rattle.mpc_condense.specs.Condensed.{IsCondensed}
use Rattle.mpc_condense.specs.Causes.{row_count}
use Rattle.mpc_tight.specs.Noise.{IsNoise}
use Rattle.mpc_tight.specs.Tightening.{RowsFit, IsWideRow}
use Rattle.mpc_tight.specs.Tightened.{IsTightened, IsRobustProgram}

-- a program is tightened to one program
abbrev pub OneTightened : Type 0
OneTightened = (plant : Plant) (noise : List ℚ) (qp one other : Qp) → IsCondensed qp plant → IsTightened plant noise qp one → IsTightened plant noise qp other → one ≡ other

-- one row at most is the first that is too wide, and none where all rows fit
abbrev pub OneWideRow : Type 0
OneWideRow = (plant : Plant) (noise : List ℚ) (w : RationalMatrix) (i j : ℕ) → IsWideRow plant noise w i → IsWideRow plant noise w j → i ≡ j

abbrev pub NoWideRow : Type 0
NoWideRow = (plant : Plant) (noise : List ℚ) (w : RationalMatrix) (i : ℕ) → RowsFit plant noise w (row_count plant) → ¬ IsWideRow plant noise w i

-- the rows of a tightened program hold exactly for the robustly admissible sequences
abbrev pub TightenedIsRobust : Type 0
TightenedIsRobust = (plant : Plant) (noise : List ℚ) (qp tight : Qp) → IsCondensed qp plant → IsNoise noise plant.n → IsTightened plant noise qp tight → IsRobustProgram tight plant noise
