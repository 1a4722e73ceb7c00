-- The refusals of a plant's program, from what the libraries say of them and back.
use Rattle.std.proofs.Common.{ℕ, inl, inr, refl}
use Rattle.mpc_space.specs.Definite.{IsDefinite}
use Rattle.mpc_space.specs.Matrix.{height, entry}
use Rattle.mpc_plant.specs.declared.plants.Plant.{Plant}
use Rattle.mpc_rows.specs.declared.places.Place.{Place}
use Rattle.mpc_rows.specs.declared.places.Place.TheVariants.{Pivot}
use Rattle.mpc_rows.specs.declared.programs.Qp.{Qp}
use Rattle.mpc_definite.specs.Pivots.{IsFirstNotPositive, IsFirstWide}
use Rattle.mpc_condense.specs.Causes.{IsWidePlace}
use Rattle.mpc_condense.specs.ProgramTheorems.{RowsWithin}
use Rattle.mpc_condense.specs.Convex.{HasProgram as HasItsProgram}
use Rattle.mpc_theorem.specs.Programs.{HasProgram, IsNotDefinite, IsWidePivot, IsWideProgram}
use Rattle.mpc_theorem.proofs.ProgramPlaces.{to_all_fit, of_all_fit, of_wide_place, to_not_positive, of_not_positive, to_wide_pivot, of_wide_pivot}

module _ (plant : Plant) where
  -- the program, as the libraries speak of it
  pub to_program : (qp : Qp) → HasProgram plant qp → HasItsProgram plant qp
  to_program qp h = record { condensed = h.condensed; fits = to_all_fit plant h.fits }

  pub of_program : (qp : Qp) → HasItsProgram plant qp → HasProgram plant qp
  of_program qp h = record { condensed = h.condensed; fits = of_all_fit plant h.fits }

  pub not_definite : (qp : Qp) (j : ℕ) → HasItsProgram plant qp → IsFirstNotPositive (entry qp.h) (height qp.h) j → (¬ IsDefinite qp.h.rows) → IsNotDefinite plant j
  not_definite qp j program first none = record {
    qp = qp;
    stops = record { program = of_program qp program; first = of_not_positive qp j first };
    sign = first.here;
    not_definite = none;
  }

  pub first_not_positive : (j : ℕ) (h : IsNotDefinite plant j) → IsFirstNotPositive (entry h.qp.h) (height h.qp.h) j
  first_not_positive j h = to_not_positive h.qp j h.stops.first h.sign

  pub wide_pivot : (qp : Qp) (j : ℕ) → HasItsProgram plant qp → IsFirstWide (entry qp.h) (height qp.h) j → IsWideProgram plant (Pivot j)
  wide_pivot qp j program first = inr (record {
    qp = qp;
    j = j;
    place_is = refl;
    stops = record { program = of_program qp program; first = of_wide_pivot qp j first };
    sign = first.positive;
  })

  pub wide_place : RowsWithin → (place : Place) → IsWidePlace plant place → IsWideProgram plant place
  wide_place within place h = inl (of_wide_place plant within place h)

  pub first_wide : (place : Place) (h : IsWidePivot plant place) → IsFirstWide (entry h.qp.h) (height h.qp.h) h.j
  first_wide place h = to_wide_pivot h.qp h.j h.stops.first h.sign
