-- The heights of the trees at a search tree's nodes.
use Rattle.std.specs.Prelude.{◌≡◌, ℕ, ◌+◌, ◌<◌, ◌≤◌, max, List, length, slice_get, slice_index, Some}
use Rattle.mpc_rows.specs.declared.trees.Node.{Node}
use Rattle.mpc_rows.specs.declared.trees.Node.TheVariants.{Split, Law, NoMove}

-- the height of the tree at a place, by the heights of its sides: 0 at a leaf, and at a split one more than that of its higher side
abbrev pub height_by : List ℕ → List ℕ → ℕ → Node → ℕ
height_by sides heights place (Split row) = 1 + max (slice_index heights (place + 1)) (slice_index heights (slice_index sides place))
height_by sides heights place (Law law certs) = 0
height_by sides heights place (NoMove cert) = 0

abbrev pub IsHeightBy : List Node → List ℕ → List ℕ → ℕ → ℕ → Type 0
IsHeightBy nodes sides heights place height = (node : Node) → slice_get nodes place ≡ Some node → height ≡ height_by sides heights place node

-- the heights of the trees from a place on
pub record AreHeightsFrom (nodes : List Node) (sides : List ℕ) (from : ℕ) (heights : List ℕ) : Type 0 where
  pub one_each : length heights ≡ length nodes
  pub each : (place : ℕ) → from ≤ place → IsHeightBy nodes sides heights place (slice_index heights place)
  pub low : (place : ℕ) → from ≤ place → place < length nodes → slice_index heights place + place < length nodes
