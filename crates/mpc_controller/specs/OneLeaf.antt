-- At each point the walk through a search tree ends, and at one leaf only.
use Rattle.std.specs.Prelude.{◌≡◌, ℕ, List}
use Rattle.mpc_exact.specs.Rational.{ℚ}
use Rattle.mpc_rows.specs.declared.trees.Node.{Node}
use Rattle.mpc_controller.specs.Preorder.{IsTree}
use Rattle.mpc_controller.specs.Walk.{EndsAt}

pub record EndsOnce (nodes : List Node) (t : List ℚ) : Type 0 where
  pub place : ℕ
  pub leaf : Node
  pub ends : EndsAt nodes t place leaf
  pub only : (other : ℕ) (node : Node) → EndsAt nodes t other node → other ≡ place

abbrev pub OneLeaf : Type 0
OneLeaf = (nodes : List Node) (t : List ℚ) → IsTree nodes → EndsOnce nodes t
