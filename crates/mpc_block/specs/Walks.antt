-- The walk in a block.
use Rattle.std.specs.Prelude.{◌≡◌, ℕ, ◌+◌, ◌<◌, ◌≤◌, List, length, slice_index}
use Rattle.mpc_plant.specs.Trajectory.{point_of}
use Rattle.mpc_controller.specs.Parts.{Parts, limits_of}
use Rattle.mpc_controller.specs.Walk.{Reaches}
use Rattle.mpc_table.specs.Forms.{AreUpTo}
use Rattle.mpc_block.specs.declared.walks.Turn.{Turn}
use Rattle.mpc_block.specs.declared.walks.Turn.TheVariants.{To, End, Bad}
use Rattle.mpc_block.specs.Block.{width_of, line_start, line_at, IsBlockOf}

-- the block is this controller's, and no count is above its limit
pub record Serves (words counts : List ℕ) (parts : Parts) : Type 0 where
  pub block : IsBlockOf words parts
  pub up_to : AreUpTo counts (limits_of parts.plant)

-- the node at a place, whose line begins at this word
pub record StandsAt (parts : Parts) (place start : ℕ) : Type 0 where
  pub inside : place < length parts.tree
  pub start_is : start ≡ line_start (width_of parts) place

-- the walk goes on from a place to a node whose line begins at this word, under which the tree is less high
pub record GoesTo (words counts : List ℕ) (parts : Parts) (block : IsBlockOf words parts) (place start : ℕ) : Type 0 where
  pub next : ℕ
  pub stands : StandsAt parts next start
  pub lower : slice_index block.heights next < slice_index block.heights place
  pub reaches : Reaches parts.tree (point_of counts) place → Reaches parts.tree (point_of counts) next

-- what the walk does at a place
abbrev pub IsTurn : (words counts : List ℕ) (parts : Parts) → IsBlockOf words parts → ℕ → Turn → Type 0
IsTurn words counts parts block place (To start) = GoesTo words counts parts block place start
IsTurn words counts parts block place End = slice_index (line_at words (width_of parts) place) 0 ≡ 0
IsTurn words counts parts block place Bad = ⊥

-- after so many turns the walk has come to a node whose line begins at this word
pub record HasCome (words counts : List ℕ) (parts : Parts) (block : IsBlockOf words parts) (turns start : ℕ) : Type 0 where
  pub place : ℕ
  pub stands : StandsAt parts place start
  pub height : slice_index block.heights place + turns ≤ slice_index block.heights 0
  pub reached : Reaches parts.tree (point_of counts) place

-- the walk ends at a node whose line begins at this word
pub record EndsIn (words counts : List ℕ) (parts : Parts) (start : ℕ) : Type 0 where
  pub place : ℕ
  pub stands : StandsAt parts place start
  pub zero_is : slice_index (line_at words (width_of parts) place) 0 ≡ 0
  pub reached : Reaches parts.tree (point_of counts) place

-- the walk ends at this node, counted from 1, which has this law, or none where it is 0; the law's first line begins at this word
pub record FindsLeaf (words counts : List ℕ) (parts : Parts) (node law start : ℕ) : Type 0 where
  pub place : ℕ
  pub node_is : node ≡ place + 1
  pub inside : place < length parts.tree
  pub zero_is : slice_index (line_at words (width_of parts) place) 0 ≡ 0
  pub reached : Reaches parts.tree (point_of counts) place
  pub law_is : law ≡ slice_index (line_at words (width_of parts) place) 1
  pub start_is : start ≡ slice_index (line_at words (width_of parts) place) 2
