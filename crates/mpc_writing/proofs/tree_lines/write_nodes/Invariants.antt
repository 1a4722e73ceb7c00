use Rattle.std.proofs.Common.{[], take, ◌≡◌, length}
use Rattle.std.specs.Prelude.{All}
use Rattle.mpc_plant.specs.declared.plants.Plant.{Plant}
use Rattle.mpc_writing.specs.PlaneNames.{IsGoodNode, ArePlanes, AreNodesNumbered}
use Rattle.mpc_writing.specs.Names.{AreNames}
use Rattle.mpc_writing.proofs.tree_lines.write_nodes.Given as goal

abbrev pub invariant-loop-k : goal.invariant-loop-k
invariant-loop-k l = record {
  numbered : (plant : Plant) → All (IsGoodNode plant) l.tree → ArePlanes plant (AreNames l.initial.names) [] → AreNodesNumbered plant (take l.k l.tree) l.initial.out.items l.out.items (AreNames l.names);
  kept : take (length l.fn.out.items) l.out.items ≡ l.fn.out.items;
  names_kept : take (length l.fn.names.text.items) l.names.text.items ≡ l.fn.names.text.items;
}
