-- What is known of the laws whose regions don't meet a cell.
use Rattle.std.specs.Prelude.{◌≡◌, ℕ, ◌<◌, ◌≤◌, cond, nat_lt, List, length, take, get_or, Some, slice_get}
use Rattle.mpc_linear.specs.declared.integers.RowInt.{RowInt}
use Rattle.mpc_rows.specs.declared.programs.Qp.{Qp}
use Rattle.mpc_rows.specs.declared.systems.Row.{Row}
use Rattle.mpc_simplex.specs.Answer.{HasPoint}
use Rattle.mpc_systems.specs.Systems.{meet_system}
use Rattle.mpc_tree.specs.Joints.{AreJoints}
use Rattle.mpc_tree.specs.declared.missed.TheConstants.{UNKNOWN}
use Rattle.mpc_tree.specs.declared.missed.Search.{Search}
use Rattle.mpc_tree.specs.declared.nodes.Region.{Region}
use Rattle.mpc_tree.specs.declared.nodes.Region.TheVariants.{Met, Missed}

-- the first k rows of the cell are enough to show that no point of it meets the rows of a law
pub record IsMissed (qp : Qp) (cell : List Row) (border : List RowInt) (k : ℕ) : Type 0 where
  pub within : k ≤ length cell
  pub no_point : ¬ HasPoint (meet_system qp (take k cell) border)

-- so many are, where the region doesn't meet the cell
abbrev pub IsRegion : Qp → List Row → List RowInt → Region → Type 0
IsRegion qp cell border Met = HasPoint (meet_system qp cell border)
IsRegion qp cell border (Missed k) = IsMissed qp cell border k

-- each entry that is known is of as many rows as are enough
pub record AreMissed (qp : Qp) (borders : List (List RowInt)) (cell : List Row) (entries : List ℕ) : Type 0 where
  pub each : (place : ℕ) (border : List RowInt) → slice_get borders place ≡ Some border → get_or entries place UNKNOWN < UNKNOWN → IsMissed qp cell border (get_or entries place UNKNOWN)

-- an entry, if it is of rows among the first so many
abbrev pub entry_within : ℕ → ℕ → ℕ
entry_within shared k = cond (nat_lt shared k) UNKNOWN k

-- what is kept of a search holds for the cell with these rows
pub record IsSearchOf (qp : Qp) (borders : List (List RowInt)) (cell : List Row) (s : Search) : Type 0 where
  pub missed : AreMissed qp borders cell s.missed
  pub joints : AreJoints qp s.joints

-- it holds for the cell of the search
abbrev pub IsSearch : Qp → List (List RowInt) → Search → Type 0
IsSearch qp borders s = IsSearchOf qp borders s.rows.items s

-- it holds whatever the laws
abbrev pub IsAnySearch : Search → Type 0
IsAnySearch s = (qp : Qp) (borders : List (List RowInt)) → IsSearch qp borders s

-- what the second search keeps holds for the cell with these rows, where what the first keeps holds for its own
abbrev pub IsTurned : Search → List Row → Search → Type 0
IsTurned before cell s = (qp : Qp) (borders : List (List RowInt)) → IsSearch qp borders before → IsSearchOf qp borders cell s
