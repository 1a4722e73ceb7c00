use Rattle.mpc_block.specs.Layouts.{AreNodesTo, KeepsBefore}
use Rattle.mpc_block.proofs.layouts.write_nodes.Given as goal

abbrev pub invariant-loop-place : goal.invariant-loop-place
invariant-loop-place l = record {
  nodes : AreNodesTo l.controller l.sides l.place l.words;
  kept : KeepsBefore 12 l.initial.words l.words;
}
