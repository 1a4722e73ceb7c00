-- What bytes are read as.
use Rattle.std.specs.Prelude.{◌≡◌, ℕ, List}
use Rattle.mpc_plant.specs.declared.faults.PlantKind.{PlantKind}
use Rattle.mpc_plant.specs.declared.plants.Plant.{Plant}
use Rattle.mpc_plant.specs.WholePlant.{ReadsAsPlant, IsFirstFault}

-- a plant, or the first check that fails
pub data Reading : Type 0 where
  stated : Plant → Reading
  faulty : PlantKind → List ℕ → Reading

abbrev pub IsReading : List ℕ → Reading → Type 0
IsReading bytes (stated plant) = ReadsAsPlant bytes plant
IsReading bytes (faulty kind path) = IsFirstFault bytes kind path

-- bytes are read in at most one way
abbrev pub OneReading : Type 0
OneReading = (bytes : List ℕ) (one other : Reading) → IsReading bytes one → IsReading bytes other → one ≡ other
