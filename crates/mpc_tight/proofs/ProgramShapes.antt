-- The shapes of a tightened program.
use Rattle.std.proofs.Common.{◌≡◌, ℕ, ◌+◌, List, length, refl, subst, arith}
use Rattle.mpc_exact.specs.Rational.{ℚ}
use Rattle.mpc_space.specs.Matrix.{RationalMatrix}
use Rattle.mpc_linear.specs.Shape.{HasShape}
use Rattle.mpc_plant.specs.declared.plants.Plant.{Plant}
use Rattle.mpc_condense.specs.Condensed.{stage_row}
use Rattle.mpc_tight.specs.Tightening.{RowsFit}
use Rattle.mpc_tight.specs.Tightened.{RowsTightened}
use Rattle.mpc_tight.proofs.TightenedRows.{tightened_none, fit_none}

-- ---- the first row, and the rows of a step
first_row : (plant : Plant) → 0 ≡ stage_row plant 0 0
first_row plant = omega arith

pub stage_end : (plant : Plant) (k r : ℕ) → r ≡ length plant.rows → stage_row plant k r ≡ stage_row plant (k + 1) 0
stage_end plant k r e = omega arith

module _ (plant : Plant) (noise : List ℚ) (old w : RationalMatrix) where
  pub starts_tightened : w ≡ old → (rows columns : ℕ) → HasShape old rows columns → RowsTightened plant noise old w (stage_row plant 0 0)
  starts_tightened e rows columns s =
      subst (RowsTightened plant noise old w) (first_row plant) (tightened_none plant noise old w e (record { rows_are = refl; columns_are = refl; rectangular = s.rectangular }))

  pub starts_fit : RowsFit plant noise old (stage_row plant 0 0)
  starts_fit = subst (RowsFit plant noise old) (first_row plant) (fit_none plant noise old)
