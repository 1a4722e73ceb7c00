-- All rows that the turns of a tree ask of the point behind one step.
use Rattle.std.specs.Prelude.{◌≡◌, ℕ, ◌<◌, List, length, get_or}
use Rattle.mpc_exact.specs.Rational.{ℚ}
use Rattle.mpc_rows.specs.declared.systems.Row.{Row}
use Rattle.mpc_rows.specs.declared.trees.Node.{Node}
use Rattle.mpc_rows.specs.LinearSystem.{LinearSystem, height, row_at, no_row}
use Rattle.mpc_controller.specs.declared.ways.Turn.{Turn}
use Rattle.mpc_controller.specs.Ways.{IsTurn, turn_row}
use Rattle.mpc_recur.specs.Forms.{substituted, SubstitutedFits}

-- s has the row with the forms in place of the coordinates, and none of its numbers is too wide
pub record IsAsked (forms : List (List ℚ)) (s : LinearSystem) (row : Row) : Type 0 where
  pub fits : SubstitutedFits (length forms) forms row
  pub place : ℕ
  pub below : place < height s
  pub is : row_at s place ≡ substituted (length forms) forms row

-- so it has the rows of all turns at splits before this place
pub record AreAsked (nodes : List Node) (forms : List (List ℚ)) (end : ℕ) (s : LinearSystem) : Type 0 where
  pub width : s.width ≡ length forms
  pub each : (turn : Turn) → turn.split < end → IsTurn nodes turn → IsAsked forms s (turn_row nodes turn)

-- each of the rows is one of the system's
abbrev pub AreAmong : LinearSystem → List Row → Type 0
AreAmong s more = (i : ℕ) → i < length more → (j : ℕ) × (j < height s) × (get_or more i no_row ≡ row_at s j)
