use Rattle.std.proofs.Common.{◌≡◌, ◌∷◌, ◌+◌, sym, ap, subst, length, arith, rules}
use Rattle.std.proofs.lemmas.Grind.{common_steps}
use Rattle.std.proofs.lemmas.List.Elements.{All-head, All-tail}
use Rattle.std.proofs.lemmas.Result.{IfOk-weaker}
use Rattle.std.specs.Prelude.{All}
use Rattle.std.specs.Vec.Iter.{into_iter_items, into_iter_len}
use Rattle.mpc_tree.specs.Growth.{IsBuilt, cell_of}
use Rattle.mpc_tree.specs.Pieces.{AreFilled, IsDrawn}
use Rattle.mpc_tree.proofs.PieceLemmas.{AllBecome, IsHand, become_same, become_finer, become_open, of_whole, wide_whole, hand_within, all_laid}
use Rattle.mpc_tree.proofs.threads.grown_by.Goals as goal

pub loop-hand-init : goal.loop-hand-init
loop-hand-init g c =
    let gives = c.into_iter-hand-iterator.ensures.into_iter_gives in
    let right : All (IsHand c.args.qp.now c.args.laws.now c.in_ok-pieces.pieces.items) c.in_ok-hands.hands.items = subst (λ p. All (IsHand c.args.qp.now c.args.laws.now p) c.in_ok-hands.hands.items) c.deref.ensures.value c.in_ok-hands.ensures in
    let count : into_iter_len c.into_iter-hand-iterator.result ≡ length (into_iter_items c.into_iter-hand-iterator.result) = first_of (search rules, grind (arith, common_steps)) in
    record {
      become = become_same c.args.qp.now c.args.laws.now c.in_ok-pieces.pieces.items;
      hands = subst (All (IsHand c.args.qp.now c.args.laws.now c.in_ok-pieces.pieces.items)) (sym gives.0) right;
      count = count;
    }

pub lay_all-requires : goal.lay_all-requires
lay_all-requires g c =
    let qp = c.args.qp.now in
    let laws = c.args.laws.now in
    let before = c.in_ok-pieces.pieces.items in
    let whole : All (IsHand qp laws before) (c.in-Some.hand ∷ into_iter_items c.next.new.self) = subst (All (IsHand qp laws before)) (c.in-Some.ensures.steps).0 c.loop-hand.invariant.hands in
    let own : All (IsDrawn qp laws before) c.in_ok-hand.field-0.items = subst (IsHand qp laws before) c.in_ok-hand.was (All-head (IsHand qp laws before) c.in-Some.hand (into_iter_items c.next.new.self) whole) in
    hand_within qp laws before c.loop-hand.pieces.items c.loop-hand.invariant.become c.in_ok-hand.field-0.items own

pub loop-hand-preserved : goal.loop-hand-preserved
loop-hand-preserved g c =
    let qp = c.args.qp.now in
    let laws = c.args.laws.now in
    let before = c.in_ok-pieces.pieces.items in
    let left = into_iter_items c.next.new.self in
    let steps : (into_iter_items c.loop-hand.hand-iterator ≡ c.in-Some.hand ∷ left) × (into_iter_len c.next.new.self + 1 ≡ into_iter_len c.loop-hand.hand-iterator) = c.in-Some.ensures.steps in
    let whole : All (IsHand qp laws before) (c.in-Some.hand ∷ left) = subst (All (IsHand qp laws before)) steps.0 c.loop-hand.invariant.hands in
    let own : All (IsDrawn qp laws before) c.in_ok-hand.field-0.items = subst (IsHand qp laws before) c.in_ok-hand.was (All-head (IsHand qp laws before) c.in-Some.hand left whole) in
    record {
      become = subst (AllBecome qp laws before) (sym c.lay_all.ensures) (all_laid qp laws before c.loop-hand.pieces.items c.in_ok-hand.field-0.items own c.loop-hand.invariant.become);
      hands = All-tail (IsHand qp laws before) c.in-Some.hand left whole;
      count = omega (arith, steps.1, c.loop-hand.invariant.count, ap length steps.0);
    }

pub joined-requires-clause-open : goal.joined-requires-clause-open
joined-requires-clause-open g c = become_open c.args.qp.now c.args.laws.now c.in_ok-pieces.pieces.items c.loop-hand.pieces.items c.loop-hand.invariant.become c.in_ok-pieces.ensures.open

pub returns-clause-built : goal.returns-clause-built
returns-clause-built g c =
    let qp = c.args.qp.now in
    let laws = c.args.laws.now in
    let laid = become_finer qp laws c.in_ok-pieces.pieces.items c.loop-hand.pieces.items c.loop-hand.invariant.become in
    IfOk-weaker c.joined.result (AreFilled qp laws c.loop-hand.pieces.items) (IsBuilt qp laws (cell_of c.args.root)) (λ nodes f. of_whole qp laws c.args.root nodes (c.in_ok-pieces.ensures.finer.filled nodes (laid.filled nodes f))) c.joined.ensures.filled

pub returns-clause-wide : goal.returns-clause-wide
returns-clause-wide g c =
    let qp = c.args.qp.now in
    let laws = c.args.laws.now in
    let laid = become_finer qp laws c.in_ok-pieces.pieces.items c.loop-hand.pieces.items c.loop-hand.invariant.become in
    wide_whole qp laws c.args.root c.loop-hand.pieces.items (record { filled = λ nodes f. c.in_ok-pieces.ensures.finer.filled nodes (laid.filled nodes f); wide = λ number place w. c.in_ok-pieces.ensures.finer.wide number place (laid.wide number place w) }) c.joined.result c.joined.ensures.wide
