-- The nodes of a search in preorder, and the runs of a node in order, up to the first with a number that is too wide. Nodes, laws and rows go
-- by their numbers from 1.
use Rattle.std.specs.Prelude.{◌≡◌, ℕ, suc, ◌+◌, ◌-◌, ◌⊎◌, List, [], ◌∷◌, ◌++◌, length, All, Some, slice_get}
use Rattle.mpc_exact.specs.Rational.{ℚ}
use Rattle.mpc_space.specs.Matrix.{height}
use Rattle.mpc_linear.specs.declared.integers.RowInt.{RowInt}
use Rattle.mpc_rows.specs.declared.programs.Qp.{Qp}
use Rattle.mpc_rows.specs.declared.laws.Law.{Law}
use Rattle.mpc_rows.specs.declared.places.Place.{Place}
use Rattle.mpc_rows.specs.declared.places.Place.TheVariants.{Meet, Holds, Joint}
use Rattle.mpc_rows.specs.LinearSystem.{LinearSystem, IsPoint}
use Rattle.mpc_rows.specs.RunWidth.{RunFits}
use Rattle.mpc_rows.specs.LawRows.{AreLawRows}
use Rattle.mpc_systems.specs.Systems.{meet_system, hold_system, joint_system}
use Rattle.mpc_tree.specs.Trees.{Cell, yes_side, no_side}
use Rattle.mpc_theorem.specs.Firsts.{IsFirstOf, numbered}

-- ---- the runs of a node, by their places
-- row i of law l
abbrev pub IsRowOf : Qp → List Law → ℕ → ℕ → RowInt → Type 0
IsRowOf qp laws l i row = (law : Law) × (slice_get laws (l - 1) ≡ Some law) × (rows : List RowInt) × AreLawRows qp law rows × (slice_get rows (i - 1) ≡ Some row)

-- the system of the run: for the cell's states in the region of the law, those where the row fails, or those with admissible unknowns
abbrev pub IsRunAt : Qp → List Law → Cell → Place → LinearSystem → Type 0
IsRunAt qp laws cell (Meet number l) system = (law : Law) × (slice_get laws (l - 1) ≡ Some law) × (rows : List RowInt) × AreLawRows qp law rows × (system ≡ meet_system qp cell.rows rows)
IsRunAt qp laws cell (Holds number l i) system = (row : RowInt) × IsRowOf qp laws l i row × (system ≡ hold_system qp cell.rows row)
IsRunAt qp laws cell joint system = system ≡ joint_system qp cell.rows

-- the run fits, and finds a point
abbrev pub Finds : Qp → List Law → Cell → Place → Type 0
Finds qp laws cell place = (system : LinearSystem) × IsRunAt qp laws cell place system × RunFits system × (v : List ℚ) × IsPoint system v

-- the run fits, and finds none, so that the next one decides the node; the joint one, the last, only has to fit
abbrev pub Passes : Qp → List Law → Cell → Place → Type 0
Passes qp laws cell (Joint number) = RunFits (joint_system qp cell.rows)
Passes qp laws cell place = (system : LinearSystem) × IsRunAt qp laws cell place system × RunFits system × ¬ ((v : List ℚ) × IsPoint system v)

-- ---- a node
-- its runs for the laws from the cell's next one on, and the joint one
abbrev pub law_runs : List Law → ℕ → Cell → List Place
law_runs laws number cell = numbered (Meet number) (suc cell.next) (length laws - cell.next) ++ Joint number ∷ []

-- the runs that decide it: these, or those for the rows of the first law whose region meets the cell
abbrev pub AreRunsOf : Qp → List Law → ℕ → Cell → List Place → Type 0
AreRunsOf qp laws number cell runs = (runs ≡ law_runs laws number cell) ⊎ ((l : ℕ) × IsFirstOf (Passes qp laws cell) (law_runs laws number cell) (Meet number l) × Finds qp laws cell (Meet number l) × (runs ≡ numbered (Holds number l) 1 (height qp.g)))

-- the run at this place is the first that doesn't pass, as it is too wide
abbrev pub IsWideNode : Qp → List Law → ℕ → Cell → Place → Type 0
IsWideNode qp laws number cell place = (runs : List Place) × AreRunsOf qp laws number cell runs × IsFirstOf (Passes qp laws cell) runs place × (system : LinearSystem) × IsRunAt qp laws cell place system × ¬ RunFits system

-- ---- the nodes
-- a node's number, its cell, and the cells that it opens
pub record SearchNode : Type 0 where
  pub number : ℕ
  pub cell : Cell
  pub opens : List Cell

-- the nodes in preorder, as far as they go: the first is that of the first open cell, and the cells that it opens come before the other ones
abbrev pub AreInPreorder : ℕ → List Cell → List SearchNode → Type 0
AreInPreorder number cells [] = Unit {0}
AreInPreorder number cells (node ∷ nodes) = (node.number ≡ number) × (others : List Cell) × (cells ≡ node.cell ∷ others) × AreInPreorder (suc number) (node.opens ++ others) nodes

-- its runs fit: all pass, and it is a leaf, which opens nothing; or the first that doesn't finds where a row fails, and it is a split, which
-- opens its yes side and its no side
abbrev pub NodeFits : Qp → List Law → SearchNode → Type 0
NodeFits qp laws node = (runs : List Place) × AreRunsOf qp laws node.number node.cell runs × ((All (Passes qp laws node.cell) runs × (node.opens ≡ [])) ⊎ ((at : ℕ) × (i : ℕ) × (row : RowInt) × IsFirstOf (Passes qp laws node.cell) runs (Holds node.number (at + 1) i) × Finds qp laws node.cell (Holds node.number (at + 1) i) × IsRowOf qp laws (at + 1) i row × (node.opens ≡ yes_side node.cell at row ∷ no_side node.cell at row ∷ [])))
