-- How many coefficients the rows of a leaf's system have.
use Rattle.std.proofs.Common.{◌≡◌, ℕ, suc, ◌+◌, List, [], ◌∷◌, ◌++◌, length, map, pos, negsuc, refl, ◌∙◌, ap, All}
use Rattle.std.specs.List.{AllByRecursion}
use Rattle.std.proofs.lemmas.List.Elements.{All-nil, All-append, All-from_recursion, recursion_from_All}
use Rattle.std.proofs.lemmas.List.{length-append, length-replicate}
use Rattle.mpc_exact.specs.Rational.{int}
use Rattle.mpc_space.specs.Vector.{zeros}
use Rattle.mpc_space.specs.Matrix.{height}
use Rattle.mpc_space.proofs.Entries.{length-listed, length-scale}
use Rattle.mpc_linear.specs.declared.integers.RowInt.{RowInt}
use Rattle.mpc_rows.specs.declared.programs.Qp.{Qp}
use Rattle.mpc_rows.specs.declared.systems.Row.{Row}
use Rattle.mpc_rows.specs.LinearSystem.{HasWidth}
use Rattle.mpc_rows.specs.LawRows.{broken_row}
use Rattle.mpc_rows.specs.SetRuns.{box_from, box_rows, joint_rows}
use Rattle.mpc_systems.specs.Writing.{widened}
use Rattle.mpc_systems.specs.Systems.{cell_system, joint_system}
use Rattle.mpc_systems.specs.CellTheorems.{JointWidth}
use Rattle.mpc_check.specs.Widths.{IsOfWidth}
use Rattle.mpc_check.proofs.ElementLemmas.{All-split}

box_widths : (width i : ℕ) (counts : List ℕ) → AllByRecursion (IsOfWidth width) (box_from width i counts)
box_widths width i [] = tt
box_widths width i (count ∷ counts) = (length-listed width _, (length-listed width _, box_widths width (suc i) counts))

pub box_wide : (width : ℕ) (counts : List ℕ) → All (IsOfWidth width) (box_rows width counts)
box_wide width counts = All-from_recursion (IsOfWidth width) (box_rows width counts) (box_widths width 0 counts)

pub broken_wide : (row : RowInt) (width : ℕ) → length row.a ≡ width → IsOfWidth width (broken_row row)
broken_wide row width e = length-scale (int (negsuc 0)) (map int row.a) ∙ mapped row.a ∙ e
  where
    mapped : (zs : List _) → length (map int zs) ≡ length zs
    mapped [] = refl
    mapped (z ∷ zs) = ap suc (mapped zs)

pub system_wide : (width : ℕ) (counts : List ℕ) (path last : List Row) → All (IsOfWidth width) path → All (IsOfWidth width) last → HasWidth width (cell_system width counts path last).rows
system_wide width counts path last p l = record { each = All-append (IsOfWidth width) (box_rows width counts) (path ++ last) (box_wide width counts) (All-append (IsOfWidth width) path last p l) }

pub one_wide : (width : ℕ) (r : Row) → IsOfWidth width r → All (IsOfWidth width) (r ∷ [])
one_wide width r e = All-from_recursion (IsOfWidth width) (r ∷ []) (e, tt)

widened_wide : (width more : ℕ) (path : List Row) → AllByRecursion (IsOfWidth width) path → AllByRecursion (IsOfWidth (width + more)) (map (widened more) path)
widened_wide width more [] h = tt
widened_wide width more (r ∷ path) h = (length-append r.a (zeros more) ∙ (λ t. h.0 t + length-replicate more (int (pos 0)) t), widened_wide width more path h.1)

pub path_widened : (width more : ℕ) (path : List Row) → All (IsOfWidth width) path → All (IsOfWidth (width + more)) (map (widened more) path)
path_widened width more path h = All-from_recursion (IsOfWidth (width + more)) (map (widened more) path) (widened_wide width more path (recursion_from_All (IsOfWidth width) path h))

pub joint_rows_wide : JointWidth → (qp : Qp) → All (IsOfWidth (length qp.counts + height qp.h)) (joint_rows qp)
unfolding joint_system
joint_rows_wide joint_width qp =
    let width = length qp.counts + height qp.h in
    let whole = (joint_width qp [] (All-nil (IsOfWidth (length qp.counts)))).each in
    (All-split (IsOfWidth width) (box_rows width qp.counts) (joint_rows qp) whole).1
