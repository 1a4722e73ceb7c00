use Rattle.std.proofs.Common.{◌∷◌, [], sym, subst, Vec, Global, rules}
use Rattle.std.specs.Prelude.{All}
use Rattle.mpc_tree.specs.declared.frontier.Piece.{Piece}
use Rattle.mpc_tree.specs.declared.frontier.Piece.TheVariants.{Open}
use Rattle.mpc_tree.specs.Missed.{IsSearch}
use Rattle.mpc_tree.specs.Pieces.{IsFiner, IsOpen}
use Rattle.mpc_tree.proofs.PieceLemmas.{finer_then}
use Rattle.mpc_tree.proofs.frontier.pieces_in.Goals as goal
use Rattle.mpc_tree.proofs.frontier.pieces_in.Goals.{then-round-lt-FIRST_NODES+in_ok-pieces, else-round-lt-FIRST_NODES+in_ok-pieces-2}

pub loop-round-init : goal.loop-round-init
loop-round-init g c =
    let finer : IsFiner c.args.qp.now c.args.laws.now (Open c.args.root ∷ []) c.push.new.self.items = search rules in
    let ready : All (IsOpen c.args.qp.now c.args.laws.now) c.push.new.self.items = search rules in
    record { finer = finer; ready = ready; kept = c.requires.kept }

pub loop-round-preserved : goal.loop-round-preserved
loop-round-preserved g c =
    let qp = c.args.qp.now in
    let laws = c.args.laws.now in
    let root = Open c.args.root ∷ [] in
    elim c.if-round-lt-FIRST_NODES.branch [
      | then-round-lt-FIRST_NODES+in_ok-pieces w ↦ record {
        finer = subst (λ (v : Vec Piece Global). IsFiner qp laws root v.items) (sym w.pieces-is) (finer_then qp laws root c.loop-round.pieces.items w.in_ok-pieces.pieces.items c.loop-round.invariant.finer w.in_ok-pieces.ensures.finer);
        ready = subst (λ (v : Vec Piece Global). All (IsOpen qp laws) v.items) (sym w.pieces-is) w.in_ok-pieces.ensures.«open»;
        kept = subst (IsSearch qp c.args.borders.now) (sym w.kept-is) w.in_ok-pieces.ensures.kept;
      }
      | else-round-lt-FIRST_NODES+in_ok-pieces-2 w ↦ record {
        finer = subst (λ (v : Vec Piece Global). IsFiner qp laws root v.items) (sym w.pieces-is) (finer_then qp laws root c.loop-round.pieces.items w.in_ok-pieces-2.pieces.items c.loop-round.invariant.finer w.in_ok-pieces-2.ensures.finer);
        ready = subst (λ (v : Vec Piece Global). All (IsOpen qp laws) v.items) (sym w.pieces-is) w.in_ok-pieces-2.ensures.«open»;
        kept = subst (IsSearch qp c.args.borders.now) (sym w.kept-is) c.loop-round.invariant.kept;
      }
    ]
