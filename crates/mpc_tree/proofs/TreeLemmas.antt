-- Trees of cells: what is so of each split and each leaf can be weakened.
use Rattle.std.proofs.Common.{ℕ, List}
use Rattle.mpc_linear.specs.declared.integers.RowInt.{RowInt}
use Rattle.mpc_rows.specs.declared.trees.Node.{Node}
use Rattle.mpc_tree.specs.Trees.{Cell, IsTreeWhere, leaf, split, yes_side, no_side}

pub weakened : (splits splits' : Cell → ℕ → RowInt → Type 0) (ends ends' : Cell → Node → Type 0) → ((cell : Cell) (place : ℕ) (row : RowInt) → splits cell place row → splits' cell place row) → ((cell : Cell) (node : Node) → ends cell node → ends' cell node) → (cell : Cell) (nodes : List Node) → IsTreeWhere splits ends cell nodes → IsTreeWhere splits' ends' cell nodes
weakened splits splits' ends ends' f g cell nodes (leaf c node h) = leaf c node (g c node h)
weakened splits splits' ends ends' f g cell nodes (split c place row left right h y n) = split c place row left right (f c place row h) (weakened splits splits' ends ends' f g (yes_side c place row) left y) (weakened splits splits' ends ends' f g (no_side c place row) right n)
