-- What comes of a plant that is to have a convex program.
use Rattle.std.specs.Prelude.{◌≡◌, ℕ}
use Rattle.mpc_plant.specs.declared.plants.Plant.{Plant}
use Rattle.mpc_rows.specs.declared.programs.Qp.{Qp}
use Rattle.mpc_rows.specs.declared.places.Place.{Place}
use Rattle.mpc_condense.specs.Convex.{IsConvexProgram}
use Rattle.mpc_condense.specs.Refusals.{IsNotDefiniteAt, IsFirstWidePlace}

-- a pivot that isn't positive, a place with a number that is too wide, or the program
pub data ProgramOutcome : Type 0 where
  not_definite : ℕ → ProgramOutcome
  too_wide : Place → ProgramOutcome
  convex : ProgramOutcome

abbrev pub IsProgramOutcome : Plant → ProgramOutcome → Type 0
IsProgramOutcome plant (not_definite pivot) = IsNotDefiniteAt plant pivot
IsProgramOutcome plant (too_wide place) = IsFirstWidePlace plant place
IsProgramOutcome plant convex = (qp : Qp) × IsConvexProgram plant qp

-- at most one outcome is that of a plant
abbrev pub OneProgramOutcome : Type 0
OneProgramOutcome = (plant : Plant) (one other : ProgramOutcome) → IsProgramOutcome plant one → IsProgramOutcome plant other → one ≡ other
