-- The places of the bounds on a controller's numbers, in order.
use Rattle.std.specs.Prelude.{◌≡◌, ◌-◌, List, ◌++◌, length, flat_map, slice_get, Some}
use Rattle.mpc_plant.specs.declared.plants.Plant.{Plant}
use Rattle.mpc_rows.specs.declared.laws.Law.{Law}
use Rattle.mpc_rows.specs.declared.trees.Node.{Node}
use Rattle.mpc_rows.specs.declared.places.Place.{Place}
use Rattle.mpc_rows.specs.declared.places.Place.TheVariants.{LawBound, NodeBound}
use Rattle.mpc_controller.specs.Parts.{limits_of}
use Rattle.mpc_controller.specs.Bounds.{FormFits, first_move_form, NodeFits}
use Rattle.mpc_theorem.specs.Firsts.{numbered}

-- law by law and input by input, and then node by node
abbrev pub bound_places : Plant → List Law → List Node → List Place
bound_places plant laws nodes = flat_map (λ law. numbered (LawBound law) 1 plant.p) (numbered (λ law. law) 1 (length laws)) ++ numbered NodeBound 1 (length nodes)

-- the law's first move for this input keeps the bounds, or the node does
abbrev pub BoundFits : Plant → List Law → List Node → Place → Type 0
BoundFits plant laws nodes (LawBound number input) = (law : Law) → slice_get laws (number - 1) ≡ Some law → FormFits (limits_of plant) (first_move_form law (input - 1))
BoundFits plant laws nodes (NodeBound number) = (node : Node) → slice_get nodes (number - 1) ≡ Some node → NodeFits (limits_of plant) node
BoundFits plant laws nodes other = Unit {0}
