-- A search tree laid out for walks: what is done at each of its nodes, and for each split where its no side begins.
use Rattle.std.specs.Prelude.{◌≡◌, ℕ, ◌+◌, ◌^◌, ◌<◌, unsigned_abs, List, length, map, slice_get, slice_index, Some}
use Rattle.mpc_linear.specs.declared.integers.RowInt.{RowInt}
use Rattle.mpc_plant.specs.Trajectory.{point_of}
use Rattle.mpc_rows.specs.declared.trees.Node.{Node}
use Rattle.mpc_rows.specs.declared.trees.Node.TheVariants.{Split, Law, NoMove}
use Rattle.mpc_controller.specs.Preorder.{IsNoSide}
use Rattle.mpc_controller.specs.Bounds.{reach}
use Rattle.mpc_controller.specs.Walk.{Reaches}

-- what is done at a node: go on where the row says, apply the law with this number, or nothing
pub data Action : Type 0 where
  branch : RowInt → Action
  apply : ℕ → Action
  stop : Action

abbrev pub step_of : Node → Action
step_of (Split row) = branch row
step_of (Law law certs) = apply law
step_of (NoMove cert) = stop

abbrev pub steps_of : List Node → List Action
steps_of nodes = map step_of nodes

-- for each split the place of its no side
pub record AreNoSides (nodes : List Node) (sides : List ℕ) : Type 0 where
  pub one_each : length sides ≡ length nodes
  pub each : (place : ℕ) (row : RowInt) → slice_get nodes place ≡ Some (Split row) → IsNoSide nodes place (slice_index sides place)

-- the row of a branch at a place: no number on the way to its test at these counts is too wide, and the walk goes on behind the place
pub record IsSafeBranch (counts : List ℕ) (steps : List Action) (sides : List ℕ) (place : ℕ) (row : RowInt) : Type 0 where
  pub size : length row.a ≡ length counts
  pub fits : unsigned_abs row.b + reach row.a counts < 2 ^ 127
  pub after : place < slice_index sides place
  pub before_end : slice_index sides place < length steps

-- a walk at these counts, and up to them, is safe
pub record AreSafe (counts : List ℕ) (steps : List Action) (sides : List ℕ) : Type 0 where
  pub one_each : length sides ≡ length steps
  pub branches : (place : ℕ) (row : RowInt) → slice_get steps place ≡ Some (branch row) → IsSafeBranch counts steps sides place row

-- the walk at counts comes from a place to the next one
pub record LeadsTo (steps : List Action) (sides counts : List ℕ) (place next : ℕ) : Type 0 where
  pub forward : place < next
  pub inside : next < length steps
  pub walks : (nodes : List Node) → steps ≡ steps_of nodes → AreNoSides nodes sides → Reaches nodes (point_of counts) place → Reaches nodes (point_of counts) next

abbrev pub IsLast : Action → Type 0
IsLast (branch row) = ⊥
IsLast (apply law) = Unit {0}
IsLast stop = Unit {0}

pub record IsLastAt (steps : List Action) (place : ℕ) : Type 0 where
  pub step : Action
  pub step_at : slice_get steps place ≡ Some step
  pub is_last : IsLast step

-- the walk at counts ends at this place
pub record WalksTo (steps : List Action) (sides counts : List ℕ) (place : ℕ) : Type 0 where
  pub inside : place < length steps
  pub last : IsLastAt steps place
  pub walks : (nodes : List Node) → steps ≡ steps_of nodes → AreNoSides nodes sides → Reaches nodes (point_of counts) place
