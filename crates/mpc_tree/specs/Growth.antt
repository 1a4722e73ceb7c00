-- What the search finds at one node.
use Rattle.std.specs.Prelude.{◌≡◌, ℕ, ◌+◌, ◌-◌, ◌≤◌, List, [], ◌∷◌, ◌++◌, drop, length, Option, Some, None, slice_get, Contains}
use Rattle.mpc_exact.specs.Rational.{ℚ}
use Rattle.mpc_linear.specs.declared.integers.RowInt.{RowInt}
use Rattle.mpc_rows.specs.declared.programs.Qp.{Qp}
use Rattle.mpc_rows.specs.declared.laws.Law.{Law}
use Rattle.mpc_rows.specs.declared.systems.Row.{Row}
use Rattle.mpc_rows.specs.declared.trees.Node.{Node}
use Rattle.mpc_rows.specs.declared.places.Place.{Place}
use Rattle.mpc_rows.specs.declared.places.Place.TheVariants.{Holds as HoldRun}
use Rattle.mpc_rows.specs.ActiveSets.{IsFeasible}
use Rattle.mpc_rows.specs.Laws.{IsInRegion}
use Rattle.mpc_rows.specs.LawRows.{broken_row}
use Rattle.mpc_rows.specs.RunWidth.{RunFits}
use Rattle.mpc_systems.specs.Systems.{meet_system}
use Rattle.mpc_systems.specs.Writing.{HasBoxWidth}
use Rattle.mpc_tree.specs.declared.nodes.Held.{Held}
use Rattle.mpc_tree.specs.declared.nodes.Held.TheVariants.{Fails, Holds}
use Rattle.mpc_tree.specs.declared.nodes.Met.{Met}
use Rattle.mpc_tree.specs.declared.nodes.Placed.{Placed}
use Rattle.mpc_tree.specs.declared.nodes.Placed.TheVariants.{Split, Leaf}
use Rattle.mpc_tree.specs.declared.runs.OpenCell.{OpenCell}
use Rattle.mpc_tree.specs.CellRuns.{IsRunOf}
use Rattle.mpc_tree.specs.Cells.{RegionMeets, NoneMeetsBefore, IsFirstToMeet, FailsOn, NoneFailsBefore}
use Rattle.mpc_tree.specs.LeafCerts.{AreCertsOf, HasItsCerts}
use Rattle.mpc_tree.specs.NodeRuns.{MeetsFit, HoldsFit, DividesAndFits, EndsAndFits}
use Rattle.mpc_tree.specs.Trees.{Cell, IsTreeWhere}
use Rattle.mpc_tree.specs.WideRuns.{IsWideHold}

-- what is known of a cell before its search: its rows are over the states, and no law before its next meets it
pub record IsReady (qp : Qp) (laws : List Law) (cell : Cell) : Type 0 where
  pub width : HasBoxWidth qp cell.rows
  pub none : NoneMeetsBefore qp laws cell.rows cell.next
  pub within : cell.next ≤ length laws

-- the cell, as its search goes on
abbrev pub cell_of : OpenCell → Cell
cell_of o = record { rows = o.cell.rows.items; next = o.next }

-- it is ready, and its run is its own
pub record IsOpenCell (qp : Qp) (laws : List Law) (o : OpenCell) : Type 0 where
  pub ready : IsReady qp laws (cell_of o)
  pub run : IsRunOf qp o.cell.rows.items o.cell.run

-- each state with admissible unknowns lies in the region of one of the laws
pub record RegionsCover (qp : Qp) (laws : List Law) : Type 0 where
  pub covers : (t z : List ℚ) → IsFeasible qp t z → (law : Law) × Contains laws law × IsInRegion qp law t

-- the region of the law with which the search goes on meets the cell
pub record MeetsNext (qp : Qp) (laws : List Law) (cell : Cell) : Type 0 where
  pub law : Law
  pub is : slice_get laws cell.next ≡ Some law
  pub meets : RegionMeets qp cell.rows law

-- the search for a state of the cell in that region fits, and so those for a state where one of its rows fails
pub record NextFits (qp : Qp) (borders : List (List RowInt)) (cell : Cell) : Type 0 where
  pub rows : List RowInt
  pub is_border : slice_get borders cell.next ≡ Some rows
  pub fits : RunFits (meet_system qp cell.rows rows)
  pub holds : HoldsFit qp cell.rows rows (length rows)

-- that law has so many first rows, and none of them fails on the cell
pub record HoldFirst (qp : Qp) (borders : List (List RowInt)) (cell : Cell) (held : ℕ) : Type 0 where
  pub within : (rows : List RowInt) → slice_get borders cell.next ≡ Some rows → held ≤ length rows
  pub none : (rows : List RowInt) → slice_get borders cell.next ≡ Some rows → NoneFailsBefore qp rows cell.rows held

-- the runs of so many first rows can be left out, as none of these fails on the cell, and the runs fit
pub record AreLeftOut (qp : Qp) (cell : List Row) (rows : List RowInt) (count : ℕ) : Type 0 where
  pub within : count ≤ length rows
  pub none : NoneFailsBefore qp rows cell count
  pub fits : HoldsFit qp cell rows count

-- those of the law with which the search goes on
abbrev pub IsLeftOutOf : Qp → List (List RowInt) → Cell → ℕ → Type 0
IsLeftOutOf qp borders cell count = (rows : List RowInt) → slice_get borders cell.next ≡ Some rows → AreLeftOut qp cell.rows rows count

-- the first law whose region meets the cell, and the runs that find it fit
pub record IsMeeting (qp : Qp) (laws : List Law) (cell : Cell) (place : ℕ) : Type 0 where
  pub law : Law
  pub first : IsFirstToMeet qp laws cell.rows place law
  pub fits : MeetsFit qp laws cell (place + 1)

pub record IsNoMeeting (qp : Qp) (laws : List Law) (cell : Cell) : Type 0 where
  pub none : NoneMeetsBefore qp laws cell.rows (length laws)
  pub fits : MeetsFit qp laws cell (length laws)

abbrev pub IsFirstMeeting : Qp → List Law → Cell → Option Met → Type 0
IsFirstMeeting qp laws cell None = IsNoMeeting qp laws cell
IsFirstMeeting qp laws cell (Some met) = IsMeeting qp laws cell met.place

-- the first of the rows that fails on the cell
pub record IsFailing (qp : Qp) (cell : List Row) (rows : List RowInt) (place : ℕ) : Type 0 where
  pub row : RowInt
  pub is : slice_get rows place ≡ Some row
  pub fails : FailsOn qp cell row
  pub before : NoneFailsBefore qp rows cell place
  pub fits : HoldsFit qp cell rows (place + 1)

-- no row fails, as the certificates show
pub record AllHold (qp : Qp) (cell : List Row) (rows : List RowInt) (certs : List (List (ℕ × ℚ))) : Type 0 where
  pub none : NoneFailsBefore qp rows cell (length rows)
  pub certs_are : AreCertsOf qp cell rows (length rows) certs
  pub fits : HoldsFit qp cell rows (length rows)

-- no row fails, as the certificates of those behind the first so many show
pub record FurtherHold (qp : Qp) (cell : List Row) (rows : List RowInt) (first : ℕ) (certs : List (List (ℕ × ℚ))) : Type 0 where
  pub none : NoneFailsBefore qp rows cell (length rows)
  pub certs_are : AreCertsOf qp cell (drop first rows) (length rows - first) certs
  pub fits : HoldsFit qp cell rows (length rows)

abbrev pub IsHeldBehind : Qp → List Row → List RowInt → ℕ → Held → Type 0
IsHeldBehind qp cell rows first (Fails place run) = (f : IsFailing qp cell rows place) × IsRunOf qp (cell ++ broken_row f.row ∷ []) run
IsHeldBehind qp cell rows first (Holds certs) = FurtherHold qp cell rows first certs

abbrev pub IsHeld : Qp → List Row → List RowInt → Held → Type 0
IsHeld qp cell rows (Fails place run) = (f : IsFailing qp cell rows place) × IsRunOf qp (cell ++ broken_row f.row ∷ []) run
IsHeld qp cell rows (Holds certs) = AllHold qp cell rows certs

-- the place names the first of the rows of this law whose run is too wide
abbrev pub NamesWideRow : Qp → List Row → List RowInt → ℕ → ℕ → Place → Type 0
NamesWideRow qp cell rows number law place = (i : ℕ) × (place ≡ HoldRun number law i) × IsWideHold qp cell rows i

-- what stands at the node of the cell
pub record IsSplitAt (qp : Qp) (laws : List Law) (borders : List (List RowInt)) (cell : Cell) (place row_place : ℕ) : Type 0 where
  pub rows : List RowInt
  pub is_border : slice_get borders place ≡ Some rows
  pub row : RowInt
  pub is_row : slice_get rows row_place ≡ Some row
  pub fails : FailsOn qp cell.rows row
  pub before : NoneFailsBefore qp rows cell.rows row_place
  pub divides : DividesAndFits qp laws cell place row

pub record IsLeafAt (qp : Qp) (laws : List Law) (cell : Cell) (node : Node) : Type 0 where
  pub ends : EndsAndFits qp laws cell node
  pub certs : HasItsCerts qp laws cell node

abbrev pub IsPlaced : Qp → List Law → List (List RowInt) → Cell → Placed → Type 0
IsPlaced qp laws borders cell (Split place row run) = (s : IsSplitAt qp laws borders cell place row) × IsRunOf qp (cell.rows ++ broken_row s.row ∷ []) run
IsPlaced qp laws borders cell (Leaf node) = IsLeafAt qp laws cell node

-- the tree of the cell, whose leaves have their certificates and whose runs all fit
abbrev pub IsBuilt : Qp → List Law → Cell → List Node → Type 0
IsBuilt qp laws cell nodes = IsTreeWhere (DividesAndFits qp laws) (IsLeafAt qp laws) cell nodes
