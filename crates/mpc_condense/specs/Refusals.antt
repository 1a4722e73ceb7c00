-- Why a plant has no convex program: the first pivot that isn't positive, or the first place of which a number is too wide.
use Rattle.std.specs.Prelude.{ℕ}
use Rattle.mpc_space.specs.Definite.{IsDefinite}
use Rattle.mpc_space.specs.Matrix.{height, entry}
use Rattle.mpc_plant.specs.declared.plants.Plant.{Plant}
use Rattle.mpc_rows.specs.declared.programs.Qp.{Qp}
use Rattle.mpc_rows.specs.declared.places.Place.{Place}
use Rattle.mpc_rows.specs.declared.places.Place.TheVariants.{Pivot}
use Rattle.mpc_definite.specs.Pivots.{IsFirstNotPositive, IsFirstWide}
use Rattle.mpc_condense.specs.Causes.{IsWidePlace}
use Rattle.mpc_condense.specs.Convex.{HasProgram}
use Rattle.mpc_condense.specs.declared.convex.ProgramError.{ProgramError}
use Rattle.mpc_condense.specs.declared.convex.ProgramError.TheVariants.{NotDefinite, TooWide, NoMemory}

-- the pivot, from 1, is the first that isn't positive, with no number too wide before it; then h isn't positive definite
pub record IsNotDefiniteAt (plant : Plant) (pivot : ℕ) : Type 0 where
  pub qp : Qp
  pub has_program : HasProgram plant qp
  pub first : IsFirstNotPositive (entry qp.h) (height qp.h) pivot
  pub not_definite : ¬ IsDefinite qp.h.rows

-- the first place of which a number is too wide: of condensing, or else of the pivots, where all before it are positive
pub data IsFirstWidePlace (plant : Plant) : Place → Type 0 where
  wide_program : (place : Place) → IsWidePlace plant place → IsFirstWidePlace plant place
  wide_pivot : (qp : Qp) (j : ℕ) → HasProgram plant qp → IsFirstWide (entry qp.h) (height qp.h) j → IsFirstWidePlace plant (Pivot j)

abbrev pub IsProgramCause : Plant → ProgramError → Type 0
IsProgramCause plant (NotDefinite pivot) = IsNotDefiniteAt plant pivot
IsProgramCause plant (TooWide place) = IsFirstWidePlace plant place
IsProgramCause plant NoMemory = Unit {0}
