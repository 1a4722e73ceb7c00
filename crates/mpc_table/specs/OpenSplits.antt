-- The places of no sides after a part of the nodes, and the splits that are open there: those whose yes side isn't ended.
use Rattle.std.specs.Prelude.{◌≡◌, ℕ, ◌+◌, ◌-◌, ◌<◌, ◌≤◌, List, length, drop, slice_get, slice_index, slice_range, Some, Contains}
use Rattle.mpc_linear.specs.declared.integers.RowInt.{RowInt}
use Rattle.mpc_rows.specs.declared.trees.Node.{Node}
use Rattle.mpc_rows.specs.declared.trees.Node.TheVariants.{Split}
use Rattle.mpc_controller.specs.Preorder.{Spells, IsNoSide}

-- the split at a place is open before node k: so many trees are left to be spelled until its yes side is ended
pub record IsOpen (nodes : List Node) (k place trees : ℕ) : Type 0 where
  pub before : place < k
  pub yes_side : Spells 1 (slice_range nodes (place + 1) k) trees

-- the places before node k, with the list of the open splits, the innermost last
pub record AreSidesTo (nodes : List Node) (k : ℕ) (sides pending : List ℕ) : Type 0 where
  pub one_each : length sides ≡ k
  pub left : k < length nodes → Spells (length pending + 1) (drop k nodes) 0
  pub all_ended : length nodes ≤ k → length pending ≡ 0
  pub opened : (q : ℕ) → q < length pending → IsOpen nodes k (slice_index pending q) (length pending - q)
  pub ended : (place : ℕ) (row : RowInt) → place < k → slice_get nodes place ≡ Some (Split row) → ¬ Contains pending place → IsNoSide nodes place (slice_index sides place)
