use Rattle.std.proofs.Common.{◌≡◌, ◌<◌, length}
use Rattle.std.specs.Prelude.{All}
use Rattle.std.specs.Vec.Iter.{into_iter_items, into_iter_len}
use Rattle.mpc_tree.specs.Pieces.{with_drawn}
use Rattle.mpc_tree.proofs.threads.lay_all.Given as goal

abbrev pub invariant-loop-one : goal.invariant-loop-one
invariant-loop-one l = record {
  laid : with_drawn l.initial.pieces.items l.fn.drawn.items ≡ with_drawn l.pieces.items (into_iter_items l.one-iterator);
  within : All (λ d. d.piece < length l.pieces.items) (into_iter_items l.one-iterator);
  count : into_iter_len l.one-iterator ≡ length (into_iter_items l.one-iterator);
}
