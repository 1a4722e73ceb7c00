-- The walk at a point comes to a node exactly where the point meets the rows of the path to it.
use Rattle.std.proofs.Common.{ℕ, List, [], ◌∷◌, ◌++◌, All}
use Rattle.std.proofs.lemmas.List.Elements.{All-nil}
use Rattle.mpc_exact.specs.Rational.{ℚ}
use Rattle.mpc_rows.specs.declared.systems.Row.{Row}
use Rattle.mpc_rows.specs.declared.trees.Node.{Node}
use Rattle.mpc_rows.specs.LinearSystem.{MeetsRow}
use Rattle.mpc_rows.specs.LawRows.{whole_row, broken_row}
use Rattle.mpc_systems.specs.CellTheorems.{BrokenPoints}
use Rattle.mpc_controller.specs.Walk.{Reaches, root as at_root, yes_side as to_yes, no_side as to_no}
use Rattle.mpc_controller.specs.Paths.{PathTo, root, yes_side, no_side}
use Rattle.mpc_recur.proofs.ElementLemmas.{All-split, all_with, all_one}

-- a point at which the walk comes to a place meets the rows of a path to it
pub record MeetsPath (nodes : List Node) (t : List ℚ) (place : ℕ) : Type 0 where
  pub path : List Row
  pub leads : PathTo nodes place path
  pub meets : All (MeetsRow t) path

module _ (broken_points : BrokenPoints) (nodes : List Node) (t : List ℚ) where
  pub meets_path : (place : ℕ) → Reaches nodes t place → MeetsPath nodes t place
  meets_path _ at_root = record { path = []; leads = root; meets = All-nil (MeetsRow t) }
  meets_path _ (to_yes place row r at h) =
      let p = meets_path place r in
      record { path = p.path ++ whole_row row ∷ []; leads = yes_side place row p.path p.leads at; meets = all_with (MeetsRow t) p.path (whole_row row) p.meets h.at_most }
  meets_path _ (to_no place next row r at h side) =
      let p = meets_path place r in
      record {
        path = p.path ++ broken_row row ∷ [];
        leads = no_side place next row p.path p.leads at side;
        meets = all_with (MeetsRow t) p.path (broken_row row) p.meets ((broken_points row t).1 (λ m. h (record { at_most = m })));
      }

  -- and where it meets them, the walk comes there
  pub walks_on_path : (place : ℕ) (path : List Row) → PathTo nodes place path → All (MeetsRow t) path → Reaches nodes t place
  walks_on_path _ _ root h = at_root
  walks_on_path _ _ (yes_side place row path p at) h =
      let parts = All-split (MeetsRow t) path (whole_row row ∷ []) h in
      to_yes place row (walks_on_path place path p parts.0) at (record { at_most = all_one (MeetsRow t) (whole_row row) parts.1 })
  walks_on_path _ _ (no_side place next row path p at side) h =
      let parts = All-split (MeetsRow t) path (broken_row row ∷ []) h in
      to_no place next row (walks_on_path place path p parts.0) at (λ s. (broken_points row t).0 (all_one (MeetsRow t) (broken_row row) parts.1) s.at_most) side
