-- The states at the first steps.
use Rattle.std.specs.Prelude.{◌≡◌, ℕ, ◌<◌, List, length, slice_index_or}
use Rattle.mpc_plant.specs.declared.plants.Plant.{Plant}
use Rattle.mpc_condense.specs.declared.motions.Motion.{Motion}
use Rattle.mpc_condense.specs.Stages.{IsMotion}

pub record AreMotions (plant : Plant) (all : List Motion) (count : ℕ) : Type 0 where
  pub length_is : length all ≡ count
  pub each : (k : ℕ) (d : Motion) → k < count → IsMotion plant k (slice_index_or all k d).x (slice_index_or all k d).z
