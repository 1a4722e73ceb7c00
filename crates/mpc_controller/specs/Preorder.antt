-- Search trees as lists of nodes in preorder: a split stands before the tree of its yes side, and that before the tree of its no side.
use Rattle.std.specs.Prelude.{◌≡◌, ℕ, zero, suc, ◌+◌, ◌<◌, List, [], ◌∷◌, length, slice_range}
use Rattle.mpc_rows.specs.declared.trees.Node.{Node}
use Rattle.mpc_rows.specs.declared.trees.Node.TheVariants.{Split, Law, NoMove}

-- the nodes spell trees one after another: of so many trees at first, so many are left to be spelled behind them
abbrev pub Spells : ℕ → List Node → ℕ → Type 0
Spells trees [] left = trees ≡ left
Spells zero (node ∷ nodes) left = ⊥
Spells (suc trees) (Split row ∷ nodes) left = Spells (suc (suc trees)) nodes left
Spells (suc trees) (Law law certs ∷ nodes) left = Spells trees nodes left
Spells (suc trees) (NoMove cert ∷ nodes) left = Spells trees nodes left

-- the nodes spell one tree
abbrev pub IsTree : List Node → Type 0
IsTree nodes = Spells 1 nodes 0

-- the no side of the split at a place, counted from 0, begins at this place: between the two stands the tree of the yes side
pub record IsNoSide (nodes : List Node) (place next : ℕ) : Type 0 where
  pub after : place < next
  pub before_end : next < length nodes
  pub yes_side : IsTree (slice_range nodes (place + 1) next)
