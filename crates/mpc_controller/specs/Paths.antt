-- The rows that hold on the way from the root of a search tree to a node.
use Rattle.std.specs.Prelude.{◌≡◌, ℕ, ◌+◌, List, [], ◌∷◌, ◌++◌, slice_get, Some}
use Rattle.mpc_linear.specs.declared.integers.RowInt.{RowInt}
use Rattle.mpc_rows.specs.declared.systems.Row.{Row}
use Rattle.mpc_rows.specs.declared.trees.Node.{Node}
use Rattle.mpc_rows.specs.declared.trees.Node.TheVariants.{Split}
use Rattle.mpc_rows.specs.LawRows.{whole_row, broken_row}
use Rattle.mpc_controller.specs.Preorder.{IsNoSide}

-- the rows of the path to the node at this place, counted from 0, in the order from the root: those of the splits on whose yes sides it
-- lies, and those of the others negated and strict
pub data PathTo (nodes : List Node) : ℕ → List Row → Type 0 where
  root : PathTo nodes 0 []
  yes_side : (place : ℕ) (row : RowInt) (path : List Row) → PathTo nodes place path → slice_get nodes place ≡ Some (Split row) → PathTo nodes (place + 1) (path ++ whole_row row ∷ [])
  no_side : (place next : ℕ) (row : RowInt) (path : List Row) → PathTo nodes place path → slice_get nodes place ≡ Some (Split row) → IsNoSide nodes place next → PathTo nodes next (path ++ broken_row row ∷ [])

-- a node has one path
abbrev pub OnePath : Type 0
OnePath = (nodes : List Node) (place : ℕ) (one : List Row) → PathTo nodes place one → (two : List Row) → PathTo nodes place two → one ≡ two
