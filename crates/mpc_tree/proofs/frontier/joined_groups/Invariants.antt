use Rattle.std.proofs.Common.{◌≡◌, ◌++◌, List, length}
use Rattle.std.specs.Vec.Iter.{into_iter_items, into_iter_len}
use Rattle.mpc_tree.specs.declared.frontier.Piece.{Piece}
use Rattle.mpc_tree.specs.Pieces.{AreJoined}
use Rattle.mpc_tree.proofs.frontier.joined_groups.Given as goal

abbrev pub invariant-loop-group : goal.invariant-loop-group
invariant-loop-group l = record {
  joined : (rest : List Piece) → AreJoined (into_iter_items l.group-iterator) rest → AreJoined l.fn.groups.items (l.pieces.items ++ rest);
  count : into_iter_len l.group-iterator ≡ length (into_iter_items l.group-iterator);
}
