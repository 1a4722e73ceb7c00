-- One bound is the first that is broken, and none is where all are kept.
use Rattle.std.specs.Prelude.{◌≡◌, List}
use Rattle.mpc_plant.specs.declared.plants.Plant.{Plant}
use Rattle.mpc_rows.specs.declared.laws.Law.{Law}
use Rattle.mpc_rows.specs.declared.trees.Node.{Node}
use Rattle.mpc_rows.specs.declared.places.Place.{Place}
use Rattle.mpc_controller.specs.Bounds.{KeepBounds, IsFirstBroken}

abbrev pub OneFirstBroken : Type 0
OneFirstBroken = (plant : Plant) (laws : List Law) (tree : List Node) (p q : Place) → IsFirstBroken plant laws tree p → IsFirstBroken plant laws tree q → p ≡ q

abbrev pub KeptNotBroken : Type 0
KeptNotBroken = (plant : Plant) (laws : List Law) (tree : List Node) (p : Place) → KeepBounds plant laws tree → ¬ IsFirstBroken plant laws tree p
