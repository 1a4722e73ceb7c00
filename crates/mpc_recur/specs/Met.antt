-- The rows that a way asks of the point behind one step.
use Rattle.std.specs.Prelude.{◌≡◌, List, length, map, All}
use Rattle.mpc_exact.specs.Rational.{ℚ}
use Rattle.mpc_rows.specs.declared.trees.Node.{Node}
use Rattle.mpc_rows.specs.LinearSystem.{LinearSystem}
use Rattle.mpc_controller.specs.declared.ways.Turn.{Turn}
use Rattle.mpc_controller.specs.Ways.{way_rows}
use Rattle.mpc_recur.specs.Forms.{substituted, SubstitutedFits}

-- s has the rows of the way with the forms in place of the coordinates, and none of their numbers is too wide
pub record AreMet (nodes : List Node) (forms : List (List ℚ)) (way : List Turn) (s : LinearSystem) : Type 0 where
  pub width : s.width ≡ length forms
  pub rows : s.rows ≡ map (substituted (length forms) forms) (way_rows nodes way)
  pub fits : All (SubstitutedFits (length forms) forms) (way_rows nodes way)
