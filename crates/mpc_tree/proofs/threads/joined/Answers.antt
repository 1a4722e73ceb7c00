use Rattle.std.proofs.Common.{◌≡◌, ◌∷◌, ◌+◌, sym, ◌∙◌, ap, subst, length, arith}
use Rattle.std.specs.Vec.Iter.{into_iter_items, into_iter_len}
use Rattle.mpc_tree.specs.Causes.{IfWide}
use Rattle.mpc_tree.specs.Joins.{IsWideBehind}
use Rattle.mpc_tree.proofs.Joining.{joined_more, refused_at, joined_all, none_left}
use Rattle.mpc_tree.proofs.threads.joined.Goals as goal

pub loop-piece-preserved : goal.loop-piece-preserved
loop-piece-preserved c =
    let left = into_iter_items c.next.new.self in
    let steps : (into_iter_items c.loop-piece.piece-iterator ≡ c.in-Some.piece ∷ left) × (into_iter_len c.next.new.self + 1 ≡ into_iter_len c.loop-piece.piece-iterator) = c.in-Some.ensures.steps in
    record {
      so_far = joined_more c.args.qp.now c.args.laws.now c.args.pieces.items c.loop-piece.tree (into_iter_items c.loop-piece.piece-iterator) c.in-Some.piece left c.loop-piece.invariant.so_far steps.0 c.in-Ok.nodes c.append.new.self c.in-Ok.ensures.built c.in_ok-append-in-Ok.ensures.ok;
      count = omega (arith, steps.1, c.loop-piece.invariant.count, ap length steps.0);
    }

pub returns-in-Err-clause-wide : goal.returns-in-Err-clause-wide
returns-in-Err-clause-wide c =
    let left = into_iter_items c.next.new.self in
    let steps : (into_iter_items c.loop-piece.piece-iterator ≡ c.in-Some.piece ∷ left) × (into_iter_len c.next.new.self + 1 ≡ into_iter_len c.loop-piece.piece-iterator) = c.in-Some.ensures.steps in
    refused_at c.args.qp.now c.args.laws.now c.args.pieces.items c.loop-piece.tree (into_iter_items c.loop-piece.piece-iterator) c.in-Some.piece left c.loop-piece.invariant.so_far steps.0 c.in-Err.error c.behind.result c.in-Err.ensures.wide (subst (λ n. IfWide c.behind.result (IsWideBehind n c.in-Err.error)) c.len.ensures c.behind.ensures)

pub returns-clause-filled : goal.returns-clause-filled
returns-clause-filled c =
    let steps : (into_iter_len c.loop-piece.piece-iterator ≡ 0) × (into_iter_len c.next.new.self ≡ 0) = c.in-None.ensures.steps in
    joined_all c.args.qp.now c.args.laws.now c.args.pieces.items c.loop-piece.tree c.shrink_to_fit.new.self (into_iter_items c.loop-piece.piece-iterator) c.loop-piece.invariant.so_far (none_left (into_iter_items c.loop-piece.piece-iterator) (sym c.loop-piece.invariant.count ∙ steps.0)) c.shrink_to_fit.ensures
