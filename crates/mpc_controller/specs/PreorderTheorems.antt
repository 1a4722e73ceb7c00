-- Nodes that spell trees, with one node more and with other such nodes behind them.
use Rattle.std.specs.Prelude.{ℕ, suc, ◌+◌, List, [], ◌∷◌, ◌++◌}
use Rattle.mpc_linear.specs.declared.integers.RowInt.{RowInt}
use Rattle.mpc_rows.specs.declared.trees.Node.{Node}
use Rattle.mpc_rows.specs.declared.trees.Node.TheVariants.{Split}
use Rattle.mpc_controller.specs.Preorder.{Spells}
use Rattle.mpc_controller.specs.Walk.{IsLeaf}

-- a split leaves one tree more to be spelled
abbrev pub SplitSpells : Type 0
SplitSpells = (trees : ℕ) (nodes : List Node) (left : ℕ) (row : RowInt) → Spells trees nodes (suc left) → Spells trees (nodes ++ Split row ∷ []) (suc (suc left))

-- a leaf spells one of those that are left
abbrev pub LeafSpells : Type 0
LeafSpells = (trees : ℕ) (nodes : List Node) (left : ℕ) (leaf : Node) → IsLeaf leaf → Spells trees nodes (suc left) → Spells trees (nodes ++ leaf ∷ []) left

-- what so many trees spell, and behind it what others spell, spell them all
abbrev pub JoinedSpell : Type 0
JoinedSpell = (trees others : ℕ) (nodes behind : List Node) → Spells trees nodes 0 → Spells others behind 0 → Spells (trees + others) (nodes ++ behind) 0
