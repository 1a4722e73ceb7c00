use Rattle.std.proofs.Common.{◌∷◌, []}
use Rattle.std.specs.Prelude.{All}
use Rattle.mpc_tree.specs.declared.frontier.Piece.TheVariants.{Open}
use Rattle.mpc_tree.specs.Missed.{IsSearch}
use Rattle.mpc_tree.specs.Pieces.{IsOpen, IsFiner}
use Rattle.mpc_tree.proofs.frontier.pieces_in.Given as goal

abbrev pub invariant-loop-round : goal.invariant-loop-round
invariant-loop-round g l = record {
  finer : IsFiner l.qp l.laws (Open l.fn.root ∷ []) l.pieces.items;
  ready : All (IsOpen l.qp l.laws) l.pieces.items;
  kept : IsSearch l.qp l.borders l.kept;
}
