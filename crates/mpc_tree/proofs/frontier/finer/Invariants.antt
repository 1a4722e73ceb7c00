use Rattle.std.proofs.Common.{◌≡◌, ◌++◌, length}
use Rattle.std.specs.Prelude.{All}
use Rattle.std.specs.Vec.Iter.{into_iter_items, into_iter_len}
use Rattle.mpc_tree.specs.Missed.{IsSearch}
use Rattle.mpc_tree.specs.Pieces.{IsOpen, IsFiner}
use Rattle.mpc_tree.proofs.frontier.finer.Given as goal

abbrev pub invariant-loop-piece : goal.invariant-loop-piece
invariant-loop-piece l = record {
  finer : IsFiner l.qp l.laws l.fn.pieces.items (l.finer.items ++ into_iter_items l.piece-iterator);
  done : All (IsOpen l.qp l.laws) l.finer.items;
  left : All (IsOpen l.qp l.laws) (into_iter_items l.piece-iterator);
  kept : IsSearch l.qp l.borders l.kept;
  count : into_iter_len l.piece-iterator ≡ length (into_iter_items l.piece-iterator);
}
