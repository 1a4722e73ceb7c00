-- How a spot is written where a controller is refused.
use Rattle.std.specs.Prelude.{ℕ, List, ◌++◌, codes, decimal}
use Rattle.mpc_check.specs.declared.answers.Spot.{Spot}
use Rattle.mpc_check.specs.declared.answers.Spot.TheVariants.{Stationary, Active, LeafRow, Leaf}

abbrev pub spot_text : Spot → List ℕ
spot_text (Stationary law line) = codes "law " ++ decimal law ++ codes " stationary " ++ decimal line
spot_text (Active law row) = codes "law " ++ decimal law ++ codes " active " ++ decimal row
spot_text (LeafRow node row) = codes "leaf " ++ decimal node ++ codes " row " ++ decimal row
spot_text (Leaf node) = codes "leaf " ++ decimal node
