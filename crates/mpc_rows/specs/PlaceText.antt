-- How a place is written.
use Rattle.std.specs.Prelude.{ℕ, List, ◌++◌, codes, decimal}
use Rattle.mpc_sets.specs.SetText.{set_text}
use Rattle.mpc_rows.specs.declared.places.Place.{Place}
use Rattle.mpc_rows.specs.declared.places.Place.TheVariants.{State, Cost, Row, Pivot, Law, Reach, Border, Region, Meet, Holds, Joint, LawBound, NodeBound, CheckLaw, CheckLeaf}

abbrev pub place_text : Place → List ℕ
place_text (State k) = codes "condense state " ++ decimal k
place_text (Cost k) = codes "condense cost " ++ decimal k
place_text (Row i) = codes "condense row " ++ decimal i
place_text (Pivot j) = codes "pivot " ++ decimal j
place_text (Law set) = codes "law " ++ set_text set
place_text (Reach set) = codes "reach " ++ set_text set
place_text (Border set i) = codes "border " ++ set_text set ++ codes " " ++ decimal i
place_text (Region set) = codes "region " ++ set_text set
place_text (Meet node law) = codes "meet " ++ decimal node ++ codes " " ++ decimal law
place_text (Holds node law i) = codes "holds " ++ decimal node ++ codes " " ++ decimal law ++ codes " " ++ decimal i
place_text (Joint node) = codes "joint " ++ decimal node
place_text (LawBound law input) = codes "bound law " ++ decimal law ++ codes " " ++ decimal input
place_text (NodeBound node) = codes "bound node " ++ decimal node
place_text (CheckLaw law) = codes "check law " ++ decimal law
place_text (CheckLeaf node i) = codes "check leaf " ++ decimal node ++ codes " " ++ decimal i
