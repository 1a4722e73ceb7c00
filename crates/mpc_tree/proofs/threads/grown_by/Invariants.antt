use Rattle.std.proofs.Common.{◌≡◌, length}
use Rattle.std.specs.Prelude.{All}
use Rattle.std.specs.Vec.Iter.{into_iter_items, into_iter_len}
use Rattle.mpc_tree.proofs.PieceLemmas.{AllBecome, IsHand}
use Rattle.mpc_tree.proofs.threads.grown_by.Given as goal

abbrev pub invariant-loop-hand : goal.invariant-loop-hand
invariant-loop-hand g l = record {
  become : AllBecome l.qp l.laws l.initial.pieces.items l.pieces.items;
  hands : All (IsHand l.qp l.laws l.initial.pieces.items) (into_iter_items l.hand-iterator);
  count : into_iter_len l.hand-iterator ≡ length (into_iter_items l.hand-iterator);
}
