-- The row that the integers of a line are, and what it is as a plane.
use Rattle.std.proofs.Common.{◌≡◌, ℕ, ◌∷◌, ◌++◌, List, [], length, ℤ, sym, subst, ◌∙◌}
use Rattle.mpc_linear.specs.Whole.{AreSmall}
use Rattle.mpc_linear.specs.declared.integers.RowInt.{RowInt}
use Rattle.mpc_grammar.specs.Lines.{integers_line}
use Rattle.mpc_grammar.specs.Spelling.{AreIntegers}
use Rattle.mpc_controller.specs.Bounds.{SplitFits}
use Rattle.mpc_grammar.specs.TreeGrammar.{IsRowOf, IsPlaneLine}
use Rattle.mpc_law_lines.specs.TreeReading.{ReadsPlane, IsPlaneOf}
use Rattle.mpc_law_lines.specs.declared.tree_lines.PlaneLine.{PlaneLine}
use Rattle.mpc_law_lines.specs.declared.tree_lines.PlaneLine.TheVariants.{Plane, NoPlane, Wide, NoRow}

pub row_found : (name text : List ℕ) (n : ℕ) (zs slice : List ℤ) (row : RowInt) → AreIntegers name text zs → slice ≡ zs → slice ≡ row.a ++ row.b ∷ [] → length row.a ≡ n → IsRowOf name n text row
row_found name text n zs slice row are same parts size =
    let e : zs ≡ row.a ++ row.b ∷ [] = sym same ∙ parts in
    record {
      spelled = subst (λ ys. text ≡ integers_line name ys) e are.spelled;
      size = size;
      small = subst AreSmall e are.small;
    }

pub plane_found : (name text counts : List ℕ) (row : RowInt) (line : PlaneLine) → IsRowOf name (length counts) text row → IsPlaneOf counts row line → ReadsPlane name (length counts) counts text line
plane_found name text counts row (Plane plane) is (same, good, fits) =
    subst (λ r. IsPlaneLine name (length counts) text r × SplitFits counts r) (sym same) (record { row_is = is; plane = good }, fits)
plane_found name text counts row NoPlane is common = (row, (is, common))
plane_found name text counts row Wide is (good, wide) = (row, (record { row_is = is; plane = good }, wide))
plane_found name text counts row NoRow is never = absurd never
