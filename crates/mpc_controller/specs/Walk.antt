-- The walk through a search tree at a point, from the root to a leaf (Tøndel, Johansen and Bemporad 2003).
use Rattle.std.specs.Prelude.{◌≡◌, ℕ, ◌+◌, List, map, slice_get, Some}
use Rattle.mpc_exact.specs.Rational.{ℚ, int, ◌≤ℚ◌}
use Rattle.mpc_space.specs.Vector.{dot}
use Rattle.mpc_linear.specs.declared.integers.RowInt.{RowInt}
use Rattle.mpc_rows.specs.declared.trees.Node.{Node}
use Rattle.mpc_rows.specs.declared.trees.Node.TheVariants.{Split, Law, NoMove}
use Rattle.mpc_controller.specs.Preorder.{IsNoSide}

-- t satisfies the row
pub record Satisfies (row : RowInt) (t : List ℚ) : Type 0 where
  pub at_most : dot (map int row.a) t ≤ℚ int row.b

-- the walk at t comes to the node at this place, counted from 0: from a split to its yes side where t satisfies its row, and else to its
-- no side
pub data Reaches (nodes : List Node) (t : List ℚ) : ℕ → Type 0 where
  root : Reaches nodes t 0
  yes_side : (place : ℕ) (row : RowInt) → Reaches nodes t place → slice_get nodes place ≡ Some (Split row) → Satisfies row t → Reaches nodes t (place + 1)
  no_side : (place next : ℕ) (row : RowInt) → Reaches nodes t place → slice_get nodes place ≡ Some (Split row) → ¬ Satisfies row t → IsNoSide nodes place next → Reaches nodes t next

abbrev pub IsLeaf : Node → Type 0
IsLeaf (Split row) = ⊥
IsLeaf (Law law certs) = Unit {0}
IsLeaf (NoMove cert) = Unit {0}

-- the walk at t ends at this leaf, its place counted from 0
pub record EndsAt (nodes : List Node) (t : List ℚ) (place : ℕ) (leaf : Node) : Type 0 where
  pub reached : Reaches nodes t place
  pub node_at : slice_get nodes place ≡ Some leaf
  pub is_leaf : IsLeaf leaf
