-- Search trees, their nodes in preorder, their leaves and their depth.
use Rattle.std.specs.Prelude.{◌≡◌, ℕ, ◌+◌, max, List, [], ◌∷◌, ◌++◌}
use Rattle.mpc_exact.specs.Rational.{ℚ}
use Rattle.mpc_linear.specs.declared.integers.RowInt.{RowInt}
use Rattle.mpc_rows.specs.declared.trees.Node.{Node}
use Rattle.mpc_rows.specs.declared.trees.Node.TheVariants.{Split, Law, NoMove}

-- a leaf with a law or without one, or a row that divides what is below into its yes side and its no side
pub data SearchTree : Type 0 where
  law_leaf : ℕ → List (List (ℕ × ℚ)) → SearchTree
  no_move_leaf : List (ℕ × ℚ) → SearchTree
  split : RowInt → SearchTree → SearchTree → SearchTree

-- the nodes in preorder: a split, the nodes of its yes side, and those of its no side
abbrev pub preorder : SearchTree → List Node
preorder (law_leaf law certs) = Law law certs ∷ []
preorder (no_move_leaf cert) = NoMove cert ∷ []
preorder (split row inside outside) = Split row ∷ (preorder inside ++ preorder outside)

abbrev pub leaf_count : SearchTree → ℕ
leaf_count (law_leaf law certs) = 1
leaf_count (no_move_leaf cert) = 1
leaf_count (split row inside outside) = leaf_count inside + leaf_count outside

-- the greatest number of splits above a leaf
abbrev pub depth_of : SearchTree → ℕ
depth_of (law_leaf law certs) = 0
depth_of (no_move_leaf cert) = 0
depth_of (split row inside outside) = 1 + max (depth_of inside) (depth_of outside)

-- the nodes are, in preorder, those of a tree of so many leaves and of this depth
pub record IsTreeOf (nodes : List Node) (leaves depth : ℕ) : Type 0 where
  pub tree : SearchTree
  pub nodes_are : nodes ≡ preorder tree
  pub leaves_are : leaf_count tree ≡ leaves
  pub depth_is : depth_of tree ≡ depth
