-- The turns at the splits on the way from the root of a search tree to a node.
use Rattle.std.specs.Prelude.{◌≡◌, ℕ, ◌+◌, Bool, true, false, List, [], ◌∷◌, ◌++◌, map, pos, slice_get, slice_index_or, slice_range, Some, All}
use Rattle.mpc_linear.specs.declared.integers.RowInt.{RowInt}
use Rattle.mpc_rows.specs.declared.systems.Row.{Row}
use Rattle.mpc_rows.specs.declared.trees.Node.{Node}
use Rattle.mpc_rows.specs.declared.trees.Node.TheVariants.{Split, Law, NoMove}
use Rattle.mpc_rows.specs.LawRows.{whole_row, broken_row}
use Rattle.mpc_controller.specs.Parts.{IsSplitRow}
use Rattle.mpc_controller.specs.Preorder.{IsTree, IsNoSide}
use Rattle.mpc_controller.specs.declared.ways.Turn.{Turn}
use Rattle.mpc_controller.specs.Paths.{PathTo}

-- each split's row is on states of n entries
abbrev pub HasSplitRow : ℕ → Node → Type 0
HasSplitRow n (Split row) = IsSplitRow n row
HasSplitRow n (Law law certs) = Unit {0}
HasSplitRow n (NoMove cert) = Unit {0}

-- there is a split at the place of the turn
pub record IsTurn (nodes : List Node) (turn : Turn) : Type 0 where
  pub row : RowInt
  pub is_split : slice_get nodes turn.split ≡ Some (Split row)

-- ---- rows
abbrev pub side_row : Bool → RowInt → Row
side_row true row = whole_row row
side_row false row = broken_row row

abbrev pub split_row : Node → RowInt
split_row (Split row) = row
split_row (Law law certs) = record { a = []; b = pos 0 }
split_row (NoMove cert) = record { a = []; b = pos 0 }

abbrev pub turn_row : List Node → Turn → Row
turn_row nodes turn = side_row turn.yes (split_row (slice_index_or nodes turn.split (NoMove [])))

abbrev pub way_rows : List Node → List Turn → List Row
way_rows nodes way = map (turn_row nodes) way

-- ---- ways
abbrev pub turn_at : ℕ → Bool → Turn
turn_at place side = record { split = place; yes = side }

-- the turns on the way from the root to the node at this place
pub data IsWay (nodes : List Node) : ℕ → List Turn → Type 0 where
  root : IsWay nodes 0 []
  yes_side : (place : ℕ) (row : RowInt) (way : List Turn) → IsWay nodes place way → slice_get nodes place ≡ Some (Split row) → IsWay nodes (place + 1) (way ++ turn_at place true ∷ [])
  no_side : (place next : ℕ) (row : RowInt) (way : List Turn) → IsWay nodes place way → slice_get nodes place ≡ Some (Split row) → IsNoSide nodes place next → IsWay nodes next (way ++ turn_at place false ∷ [])

-- the way leads to a node whose tree ends before this place
pub record EndsTree (nodes : List Node) (way : List Turn) (end : ℕ) : Type 0 where
  pub place : ℕ
  pub leads : IsWay nodes place way
  pub tree : IsTree (slice_range nodes place end)

-- ---- laws
-- the rows of a way are those of the path to the same node
abbrev pub PathOfWay : Type 0
PathOfWay = (nodes : List Node) (place : ℕ) (way : List Turn) → IsWay nodes place way → PathTo nodes place (way_rows nodes way)

-- and it turns at splits
abbrev pub TurnsOfWay : Type 0
TurnsOfWay = (nodes : List Node) (place : ℕ) (way : List Turn) → IsWay nodes place way → All (IsTurn nodes) way
