-- A tree in pieces, in preorder: nodes, and cells whose trees aren't built.
use Rattle.std.specs.Prelude.{◌≡◌, ℕ, ◌+◌, ◌⊎◌, List, [], ◌∷◌, ◌++◌, length, Option, Some, Result, Ok, Err, slice_get, slice_set, ⊤}
use Rattle.std.specs.Global.{Vec}
use Rattle.mpc_frac.specs.declared.NoMemory.{NoMemory}
use Rattle.mpc_linear.specs.declared.integers.RowInt.{RowInt}
use Rattle.mpc_rows.specs.declared.programs.Qp.{Qp}
use Rattle.mpc_rows.specs.declared.laws.Law.{Law}
use Rattle.mpc_rows.specs.declared.places.Place.{Place}
use Rattle.mpc_rows.specs.declared.trees.Node.{Node}
use Rattle.mpc_rows.specs.declared.trees.Node.TheVariants.{Split}
use Rattle.mpc_rows.specs.LinearSystem.{LinearSystem}
use Rattle.mpc_rows.specs.LawRows.{whole_row}
use Rattle.mpc_tree.specs.declared.frontier.Piece.{Piece}
use Rattle.mpc_tree.specs.declared.frontier.Piece.TheVariants.{Closed, Open, Refused}
use Rattle.mpc_tree.specs.declared.runs.OpenCell.{OpenCell}
use Rattle.mpc_tree.specs.declared.threads.Drawn.{Drawn}
use Rattle.mpc_tree.specs.CellRuns.{IsRunWith}
use Rattle.mpc_tree.specs.Growth.{IsOpenCell, IsBuilt, cell_of}
use Rattle.mpc_tree.specs.Joins.{place_behind}
use Rattle.mpc_tree.specs.Trees.{yes_side, no_side}
use Rattle.mpc_tree.specs.WideRuns.{IsFirstWide}

-- the pieces are the split by the row of the law at this place, and the cells of its sides, the no side with this run
pub record AreSides (parent : OpenCell) (row : RowInt) (broken : Option LinearSystem) (place : ℕ) (pieces : List Piece) : Type 0 where
  pub yes : OpenCell
  pub no : OpenCell
  pub are : pieces ≡ Closed (Split row ∷ []) ∷ (Open yes ∷ (Open no ∷ []))
  pub yes_cell : cell_of yes ≡ yes_side (cell_of parent) place row
  pub yes_run : IsRunWith parent.cell.run (whole_row row) yes.cell.run
  pub no_cell : cell_of no ≡ no_side (cell_of parent) place row
  pub no_run : no.cell.run ≡ broken

module _ (qp : Qp) (laws : List Law) where
  -- if the piece is a cell, its search may begin
  abbrev pub IsOpen : Piece → Type 0
  IsOpen (Closed nodes) = ⊤
  IsOpen (Open o) = IsOpenCell qp laws o
  IsOpen (Refused place) = ⊤

  -- the nodes that stand for a piece, none for a cell that is refused
  abbrev pub IsOfPiece : Piece → List Node → Type 0
  IsOfPiece (Closed own) nodes = nodes ≡ own
  IsOfPiece (Open o) nodes = IsBuilt qp laws (cell_of o) nodes
  IsOfPiece (Refused own) nodes = ⊥

  -- the place is the first wide one of a piece whose first node has this number
  abbrev pub IsWideIn : Piece → ℕ → Place → Type 0
  IsWideIn (Closed own) number place = ⊥
  IsWideIn (Open o) number place = IsFirstWide qp laws (cell_of o) number place
  IsWideIn (Refused own) number place = (before : ℕ) × (number ≡ before + 1) × (place ≡ place_behind before own)

  -- the nodes are those of the pieces, one after the other
  abbrev pub AreFilled : List Piece → List Node → Type 0
  AreFilled [] nodes = nodes ≡ []
  AreFilled (p ∷ ps) nodes = (first : List Node) × (later : List Node) × (nodes ≡ first ++ later) × IsOfPiece p first × AreFilled ps later

  -- the place is the first wide one among the pieces, whose first node has this number
  abbrev pub IsWideAmong : List Piece → ℕ → Place → Type 0
  IsWideAmong [] number place = ⊥
  IsWideAmong (p ∷ ps) number place = IsWideIn p number place ⊎ ((first : List Node) × IsOfPiece p first × IsWideAmong ps (number + length first) place)

  -- what the second pieces say of a tree, the first ones say of it
  pub record IsFiner (pieces finer : List Piece) : Type 0 where
    pub filled : (nodes : List Node) → AreFilled finer nodes → AreFilled pieces nodes
    pub wide : (number : ℕ) (place : Place) → IsWideAmong finer number place → IsWideAmong pieces number place

  -- what the second piece says of a tree, the first one says of it; a cell that is still open is that cell
  pub record Becomes (x y : Piece) : Type 0 where
    pub nodes : (nodes : List Node) → IsOfPiece y nodes → IsOfPiece x nodes
    pub wide : (number : ℕ) (place : Place) → IsWideIn y number place → IsWideIn x number place
    pub left : (o : OpenCell) → y ≡ Open o → x ≡ Open o

  -- the piece at this place among the pieces has become another
  pub record IsDrawn (pieces : List Piece) (d : Drawn) : Type 0 where
    pub piece : Piece
    pub is : slice_get pieces d.piece ≡ Some piece
    pub becomes : Becomes piece d.built

-- each piece as it was drawn, in its place
abbrev pub with_drawn : List Piece → List Drawn → List Piece
with_drawn pieces [] = pieces
with_drawn pieces (d ∷ ds) = with_drawn (slice_set pieces d.piece d.built) ds

-- a refused cell is the last piece
abbrev pub EndsRefused : List Piece → Type 0
EndsRefused pieces = (front : List Piece) × (place : Place) × (pieces ≡ front ++ Refused place ∷ [])

-- the pieces of the groups, one group behind the other
abbrev pub all_of : List (Vec Piece) → List Piece
all_of [] = []
all_of (g ∷ gs) = g.items ++ all_of gs

-- the pieces are those of the groups, one group behind the other, as far as a refused cell
abbrev pub AreJoined : List (Result (Vec Piece) NoMemory) → List Piece → Type 0
AreJoined [] pieces = pieces ≡ []
AreJoined (Err e ∷ gs) pieces = ⊥
AreJoined (Ok g ∷ gs) pieces = ((pieces ≡ g.items) × EndsRefused g.items) ⊎ ((rest : List Piece) × (pieces ≡ g.items ++ rest) × AreJoined gs rest)
