use Rattle.std.proofs.Common.{◌≡◌, ◌∷◌, ◌++◌, ◌+◌, sym, ap, subst, length, arith, rules}
use Rattle.std.proofs.lemmas.List.Elements.{All-append, All-tail}
use Rattle.std.specs.Prelude.{All}
use Rattle.std.specs.Vec.Iter.{into_iter_items, into_iter_len}
use Rattle.mpc_tree.specs.Pieces.{EndsRefused, IsOpen}
use Rattle.mpc_tree.proofs.Sides.{pushed_finer}
use Rattle.mpc_tree.proofs.PieceLemmas.{finer_refused}
use Rattle.mpc_tree.proofs.frontier.finer.Goals as goal

pub loop-piece-preserved : goal.loop-piece-preserved
loop-piece-preserved c =
    let qp = c.args.qp.now in
    let laws = c.args.laws.now in
    let left = into_iter_items c.next.new.self in
    let steps : (into_iter_items c.loop-piece.piece-iterator ≡ c.in-Some.piece ∷ left) × (into_iter_len c.next.new.self + 1 ≡ into_iter_len c.loop-piece.piece-iterator) = c.in-Some.ensures.steps in
    let pushed : c.append.new.self.items ≡ c.loop-piece.finer.items ++ c.in_ok-new.new.items = search rules in
    let whole : All (IsOpen qp laws) (c.in-Some.piece ∷ left) = subst (All (IsOpen qp laws)) steps.0 c.loop-piece.invariant.left in
    record {
      finer = pushed_finer qp laws c.args.pieces.items c.loop-piece.finer.items c.in_ok-new.new.items (into_iter_items c.loop-piece.piece-iterator) left c.append.new.self.items c.in-Some.piece steps.0 c.loop-piece.invariant.finer c.in_ok-new.ensures.finer pushed;
      done = subst (All (IsOpen qp laws)) (sym pushed) (All-append (IsOpen qp laws) c.loop-piece.finer.items c.in_ok-new.new.items c.loop-piece.invariant.done c.in_ok-new.ensures.«open»);
      left = All-tail (IsOpen qp laws) c.in-Some.piece left whole;
      kept = c.in_ok-new.ensures.kept;
      count = omega (arith, steps.1, c.loop-piece.invariant.count, ap length steps.0);
    }

pub returns-then-ends_refused-clause-open : goal.returns-then-ends_refused-clause-open
returns-then-ends_refused-clause-open c =
    let pushed : c.append.new.self.items ≡ c.loop-piece.finer.items ++ c.in_ok-new.new.items = search rules in
    subst (All (IsOpen c.args.qp.now c.args.laws.now)) (sym pushed) (All-append (IsOpen c.args.qp.now c.args.laws.now) c.loop-piece.finer.items c.in_ok-new.new.items c.loop-piece.invariant.done c.in_ok-new.ensures.«open»)

pub returns-then-ends_refused-clause-finer : goal.returns-then-ends_refused-clause-finer
returns-then-ends_refused-clause-finer c =
    let qp = c.args.qp.now in
    let laws = c.args.laws.now in
    let left = into_iter_items c.next.new.self in
    let steps : (into_iter_items c.loop-piece.piece-iterator ≡ c.in-Some.piece ∷ left) × (into_iter_len c.next.new.self + 1 ≡ into_iter_len c.loop-piece.piece-iterator) = c.in-Some.ensures.steps in
    let pushed : c.append.new.self.items ≡ c.loop-piece.finer.items ++ c.in_ok-new.new.items = search rules in
    let ends : EndsRefused c.append.new.self.items = subst EndsRefused c.deref.ensures.value (c.ends_refused.ensures c.if-ends_refused.true) in
    finer_refused qp laws c.args.pieces.items c.append.new.self.items left ends
    (pushed_finer qp laws c.args.pieces.items c.loop-piece.finer.items c.in_ok-new.new.items (into_iter_items c.loop-piece.piece-iterator) left c.append.new.self.items c.in-Some.piece steps.0 c.loop-piece.invariant.finer c.in_ok-new.ensures.finer pushed)
