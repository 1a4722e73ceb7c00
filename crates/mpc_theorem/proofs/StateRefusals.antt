-- What `solve` and `robust` refuse, and why.
use Rattle.std.proofs.Common.{◌≡◌, ℕ, suc, ◌-◌, inl, inr, List, refl, sym, subst, arith}
use Rattle.mpc_exact.specs.Rational.{ℚ}
use Rattle.mpc_space.specs.Matrix.{entry}
use Rattle.mpc_plant.specs.declared.lists.PlantRow.{PlantRow}
use Rattle.mpc_plant.specs.declared.plants.Plant.{Plant}
use Rattle.mpc_rows.specs.declared.places.Place.{Place}
use Rattle.mpc_rows.specs.declared.programs.Qp.{Qp}
use Rattle.mpc_condense.specs.Stages.{IsRow}
use Rattle.mpc_condense.specs.Causes.{row_count}
use Rattle.mpc_condense.specs.ProgramTheorems.{RowsWithin}
use Rattle.mpc_tight.specs.Tightening.{RowFits, IsWideRow}
use Rattle.mpc_condense.specs.Refusals.{IsNotDefiniteAt, IsFirstWidePlace, wide_program, wide_pivot as of_pivot}
use Rattle.mpc_theorem.specs.Firsts.{IsFirstOf, numbered}
use Rattle.mpc_theorem.specs.Programs.{IsNotDefinite, IsWideProgram}
use Rattle.mpc_theorem.specs.Stages.{PlantNotDefinite}
use Rattle.mpc_theorem.specs.StateTheorems.{TightRowFits, SolvesTooWide, TightensWideRow}
use Rattle.mpc_theorem.proofs.FirstLemmas.{IsFirstNumber, to_number, of_number}
use Rattle.mpc_theorem.proofs.ProgramPlaces.{to_wide_place}
use Rattle.mpc_theorem.proofs.ProgramRefusals.{to_program, not_definite, first_not_positive, wide_pivot, wide_place, first_wide}
use Rattle.mpc_theorem.proofs.RowPlaces.{row_exists, one_row}

pub plant_not_definite : PlantNotDefinite
plant_not_definite plant j = (λ h. not_definite plant h.qp j h.has_program h.first h.not_definite, of)
  where
    of : IsNotDefinite plant j → IsNotDefiniteAt plant j
    of h = record {
      qp = h.qp;
      has_program = to_program plant h.qp h.stops.program;
      first = first_not_positive plant j h;
      not_definite = h.not_definite;
    }

pub solves_too_wide : RowsWithin → SolvesTooWide
solves_too_wide within plant place = (to place, of)
  where
    to : (p : Place) → IsFirstWidePlace plant p → IsWideProgram plant p
    to p (wide_program q h) = wide_place plant within q h
    to p (of_pivot qp j program h) = wide_pivot plant qp j program h

    of : IsWideProgram plant place → IsFirstWidePlace plant place
    of (inl h) = wide_program place (to_wide_place plant place h)
    of (inr h) = subst (IsFirstWidePlace plant) (sym h.place_is) (of_pivot h.qp h.j (to_program plant h.qp h.stops.program) (first_wide plant place h))

-- ---- a row that is tightened
module _ (within : RowsWithin) (plant : Plant) (noise : List ℚ) (qp : Qp) (i : ℕ) where
  abbrev Fits : ℕ → Type 0
  Fits = TightRowFits plant noise qp

  back : (m : ℕ) → suc m - 1 ≡ m
  back m = omega arith

  to_first : IsWideRow plant noise qp.w i → IsFirstOf Fits (numbered (λ n. n) 1 (row_count plant)) i
  to_first h = of_number Fits (λ n. n) 1 (row_count plant) i (record {
    number = i;
    low = h.some;
    high = let last = within plant (i - 1) h.step h.row h.is_row in let some = h.some in omega (arith, last, some);
    is = refl;
    before = λ n low high k row r. h.before (n - 1) k row (omega (arith, low, high)) r;
    here = λ fits. h.here (fits h.step h.row h.is_row);
  })

  fits_at : (m n k : ℕ) (row : PlantRow) → m ≡ n → RowFits plant noise (entry qp.w m 0) row.x k → RowFits plant noise (entry qp.w n 0) row.x k
  fits_at m n k row e = subst (λ l. RowFits plant noise (entry qp.w l 0) row.x k) e

  same : (k l : ℕ) (row other : PlantRow) → (k ≡ l) × (row ≡ other) → RowFits plant noise (entry qp.w (i - 1) 0) row.x k → RowFits plant noise (entry qp.w (i - 1) 0) other.x l
  same k l row other e h = subst (λ r. RowFits plant noise (entry qp.w (i - 1) 0) r.x l) e.1 (subst (λ m. RowFits plant noise (entry qp.w (i - 1) 0) row.x m) e.0 h)

  of_first : IsFirstOf Fits (numbered (λ n. n) 1 (row_count plant)) i → IsWideRow plant noise qp.w i
  of_first h = by (to_number Fits (λ n. n) 1 (row_count plant) i h)
    where
      by : IsFirstNumber Fits (λ n. n) 1 (row_count plant) i → IsWideRow plant noise qp.w i
      by f =
          let at = f.is in
          let low = f.low in
          let high = f.high in
          let row = row_exists plant (i - 1) (omega (arith, at, low, high)) in
          record {
            some = omega (arith, at, low);
            before = λ n k other l r. fits_at (suc n - 1) n k other (back n) (f.before (suc n) (omega arith) (omega (arith, l, at, low)) k other (subst (λ m. IsRow plant m k other) (sym (back n)) r));
            step = row.0;
            row = row.1;
            is_row = row.2;
            here = λ here. f.here (subst Fits at (λ k other r. same row.0 k row.1 other (one_row plant (i - 1) row.0 k row.1 other row.2 r) here));
          }

pub tightens_wide_row : RowsWithin → TightensWideRow
tightens_wide_row within plant noise row = (
  λ h. record { qp = h.qp; is_convex = h.is_convex; first = to_first within plant noise h.qp row h.so },
  λ h. record { qp = h.qp; is_convex = h.is_convex; so = of_first within plant noise h.qp row h.first },
)
