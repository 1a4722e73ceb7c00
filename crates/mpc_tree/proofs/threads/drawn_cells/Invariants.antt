use Rattle.std.specs.Prelude.{All}
use Rattle.mpc_tree.specs.Missed.{IsSearch}
use Rattle.mpc_tree.specs.Pieces.{IsDrawn}
use Rattle.mpc_tree.proofs.threads.drawn_cells.Given as goal

abbrev pub invariant-loop-draw : goal.invariant-loop-draw
invariant-loop-draw l = record {
  drawn : All (IsDrawn l.qp l.laws l.pieces) l.drawn.items;
  kept : IsSearch l.qp l.borders l.kept;
}
