use Rattle.std.proofs.Common.{◌≡◌, length}
use Rattle.std.specs.Vec.Iter.{into_iter_items, into_iter_len}
use Rattle.mpc_tree.proofs.Joining.{IsJoined}
use Rattle.mpc_tree.proofs.threads.joined.Given as goal

abbrev pub invariant-loop-piece : goal.invariant-loop-piece
invariant-loop-piece l = record {
  so_far : IsJoined l.qp l.laws l.fn.pieces.items l.tree (into_iter_items l.piece-iterator);
  count : into_iter_len l.piece-iterator ≡ length (into_iter_items l.piece-iterator);
}
