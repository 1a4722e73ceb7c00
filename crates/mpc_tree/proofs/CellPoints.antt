-- What the points of the systems that decide a cell say of it.
use Rattle.std.proofs.Common.{◌≡◌, ℕ, List, [], ◌∷◌, ◌++◌, subst, All, ◌↔◌, Some, slice_get}
use Rattle.std.specs.List.{AllByRecursion}
use Rattle.std.proofs.lemmas.List.Elements.{All-get_or, All-from_recursion, recursion_from_All}
use Rattle.std.proofs.lemmas.Option.{slice_get_within, get_or_from_slice_get}
use Rattle.mpc_exact.specs.Rational.{ℚ}
use Rattle.mpc_linear.specs.declared.integers.RowInt.{RowInt}
use Rattle.mpc_rows.specs.declared.programs.Qp.{Qp}
use Rattle.mpc_rows.specs.declared.laws.Law.{Law}
use Rattle.mpc_rows.specs.declared.systems.Row.{Row}
use Rattle.mpc_rows.specs.LinearSystem.{MeetsRow}
use Rattle.mpc_rows.specs.ActiveSets.{IsFeasible}
use Rattle.mpc_rows.specs.Laws.{IsLaw, IsInRegion}
use Rattle.mpc_rows.specs.LawRows.{AreLawRows, whole_row, broken_row}
use Rattle.mpc_simplex.specs.Answer.{HasPoint}
use Rattle.mpc_systems.specs.CellTheorems.{CellTheorems}
use Rattle.mpc_systems.specs.Systems.{meet_system, hold_system, joint_system}
use Rattle.mpc_systems.specs.Writing.{HasBoxWidth}
use Rattle.mpc_tree.specs.Cells.{IsInCell, RegionMeets, FailsOn}

-- what holds of each element of two lists together holds of each of either
pub All-split : {X : Type 0} (P : X → Type 0) (xs ys : List X) → All P (xs ++ ys) → All P xs × All P ys
All-split P xs ys h = let parts = split P xs ys (recursion_from_All P (xs ++ ys) h) in (All-from_recursion P xs parts.0, All-from_recursion P ys parts.1)
  where
    split : {X : Type 0} (P : X → Type 0) (xs ys : List X) → AllByRecursion P (xs ++ ys) → AllByRecursion P xs × AllByRecursion P ys
    split P [] ys h = (tt, h)
    split P (x ∷ xs) ys h = let rest = split P xs ys h.1 in ((h.0, rest.0), rest.1)

-- ---- a region and a cell
module _ (points : CellTheorems) (qp : Qp) (law : Law) (is : IsLaw qp law) (rows : List RowInt) (are : AreLawRows qp law rows) (cell : List Row) where
  pub region_by_rows : (t : List ℚ) → IsInCell qp cell t → All (λ row. MeetsRow t (whole_row row)) rows → IsInRegion qp law t
  region_by_rows t c h = (points.region_rows qp law is rows are t).1 (c.in_box, h)

  met_at : (t : List ℚ) → All (MeetsRow t) cell × IsInRegion qp law t → RegionMeets qp cell law
  met_at t p = record { state = t; in_cell = record { in_box = p.1.in_box; meets = p.0 }; in_region = p.1 }

  pub region_meets : RegionMeets qp cell law ↔ HasPoint (meet_system qp cell rows)
  region_meets = (
    λ m. (m.state, (points.meet_points qp law is rows are cell m.state).0 (m.in_cell.meets, m.in_region)),
    λ p. met_at p.0 ((points.meet_points qp law is rows are cell p.0).1 p.1),
  )

-- a row of a law holds in its region
pub region_row : (points : CellTheorems) (qp : Qp) (law : Law) → IsLaw qp law → (rows : List RowInt) → AreLawRows qp law rows → (t : List ℚ) → IsInRegion qp law t → (i : ℕ) (row : RowInt) → slice_get rows i ≡ Some row → MeetsRow t (whole_row row)
region_row points qp law is rows are t r i row k =
    let all = ((points.region_rows qp law is rows are t).0 r).1 in
    subst (λ row. MeetsRow t (whole_row row)) (get_or_from_slice_get rows i row row k) (All-get_or (λ row. MeetsRow t (whole_row row)) rows i row (slice_get_within rows i row k) all)

-- ---- a row and a cell
module _ (points : CellTheorems) (row : RowInt) (t : List ℚ) where
  pub broken_fails : MeetsRow t (broken_row row) → ¬ MeetsRow t (whole_row row)
  broken_fails h = (points.broken_points row t).0 h

  pub holds_unless : (¬ ¬ MeetsRow t (whole_row row)) → MeetsRow t (whole_row row)
  holds_unless h = points.holds_unless row t h

module _ (points : CellTheorems) (qp : Qp) (cell : List Row) (row : RowInt) where
  pub fails_where : FailsOn qp cell row ↔ HasPoint (hold_system qp cell row)
  fails_where = (
    λ f. (f.state, (points.hold_points qp cell row f.state).0 (f.in_cell.in_box, f.in_cell.meets, f.fails)),
    λ p. let h = (points.hold_points qp cell row p.0).1 p.1 in record { state = p.0; in_cell = record { in_box = h.0; meets = h.1 }; fails = h.2 },
  )

-- ---- admissible unknowns and a cell
module _ (points : CellTheorems) (qp : Qp) (cell : List Row) (wide : HasBoxWidth qp cell) where
  -- a state of the cell with admissible unknowns, from a point of the system
  pub admitted : HasPoint (joint_system qp cell) → (t : List ℚ) × (z : List ℚ) × IsInCell qp cell t × IsFeasible qp t z
  admitted p = let h = points.joint_has_point qp cell wide p.0 p.1 in (h.0, h.1, record { in_box = h.3.in_box; meets = h.2 }, h.3)

-- ---- a smaller cell
module _ (qp : Qp) (cell : List Row) (r : Row) where
  pub in_front : (t : List ℚ) → IsInCell qp (cell ++ r ∷ []) t → IsInCell qp cell t
  in_front t c = record { in_box = c.in_box; meets = (All-split (MeetsRow t) cell (r ∷ []) c.meets).0 }

  pub meets_last : (t : List ℚ) → IsInCell qp (cell ++ r ∷ []) t → MeetsRow t r
  meets_last t c = (recursion_from_All (MeetsRow t) (r ∷ []) (All-split (MeetsRow t) cell (r ∷ []) c.meets).1).0

  pub region_front : (law : Law) → RegionMeets qp (cell ++ r ∷ []) law → RegionMeets qp cell law
  region_front law m = record { state = m.state; in_cell = in_front m.state m.in_cell; in_region = m.in_region }

  pub fails_front : (row : RowInt) → FailsOn qp (cell ++ r ∷ []) row → FailsOn qp cell row
  fails_front row f = record { state = f.state; in_cell = in_front f.state f.in_cell; fails = f.fails }
