-- Which numbers of a plant and of certificates can be written: those whose parts fit.
use Rattle.std.specs.Prelude.{ℕ, ◌^◌, ◌<◌, List, [], ◌∷◌, ◌++◌, All}
use Rattle.mpc_exact.specs.Rational.{ℚ}
use Rattle.mpc_frac.specs.Fits.{FitsFrac}
use Rattle.mpc_plant.specs.declared.plants.Plant.{Plant}
use Rattle.mpc_plant.specs.declared.lists.PlantRow.{PlantRow}
use Rattle.mpc_plant.specs.declared.lists.Coordinate.{Coordinate}
use Rattle.mpc_grammar.specs.PlantGrammar.{AllFit}

abbrev pub RowFits : PlantRow → Type 0
RowFits row = AllFit (row.x ++ row.u ++ row.max ∷ [])

abbrev pub AxisFits : Coordinate → Type 0
AxisFits axis = AllFit (axis.low ∷ axis.step ∷ [])

pub record MatricesFit (plant : Plant) : Type 0 where
  pub a : All AllFit plant.a.rows
  pub b : All AllFit plant.b.rows
  pub q : All AllFit plant.q.rows
  pub r : All AllFit plant.r.rows
  pub last : All AllFit plant.last.rows

pub record GoalFits (plant : Plant) : Type 0 where
  pub xgoal : AllFit plant.xgoal
  pub ugoal : AllFit plant.ugoal

pub record PlantFits (plant : Plant) : Type 0 where
  pub matrices : MatricesFit plant
  pub drift : AllFit plant.drift
  pub goal : GoalFits plant
  pub rows : All RowFits plant.rows
  pub terminal : All RowFits plant.terminal
  pub grid : All AxisFits plant.grid

-- a position of at most 64 digits, and a multiplier that fits
abbrev pub IsPairFit : (ℕ × ℚ) → Type 0
IsPairFit pair = (pair.0 < 10 ^ 64) × FitsFrac pair.1

abbrev pub CertFits : List (ℕ × ℚ) → Type 0
CertFits cert = All IsPairFit cert
