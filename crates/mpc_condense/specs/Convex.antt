-- The convex program of a plant.
use Rattle.mpc_space.specs.Definite.{IsDefinite}
use Rattle.mpc_space.specs.Matrix.{height, entry}
use Rattle.mpc_plant.specs.declared.plants.Plant.{Plant}
use Rattle.mpc_rows.specs.declared.programs.Qp.{Qp}
use Rattle.mpc_definite.specs.Pivots.{PassesBelow}
use Rattle.mpc_condense.specs.Condensed.{IsCondensed}
use Rattle.mpc_condense.specs.Causes.{AllFit}

-- the plant's program, and no number of condensing is too wide
pub record HasProgram (plant : Plant) (qp : Qp) : Type 0 where
  pub fits : AllFit plant
  pub condensed : IsCondensed qp plant

-- all pivots of h are positive, and no number of their steps is too wide
abbrev pub PivotsPass : Qp → Type 0
PivotsPass qp = PassesBelow (entry qp.h) (height qp.h) (height qp.h)

-- so h is positive definite
pub record IsConvexProgram (plant : Plant) (qp : Qp) : Type 0 where
  pub has_program : HasProgram plant qp
  pub pivots : PivotsPass qp
  pub definite : IsDefinite qp.h.rows
