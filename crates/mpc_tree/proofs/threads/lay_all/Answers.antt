use Rattle.std.proofs.Common.{◌≡◌, ◌∷◌, ◌+◌, ◌<◌, sym, ◌∙◌, ap, subst, length, arith}
use Rattle.std.proofs.lemmas.List.{length-set}
use Rattle.std.proofs.lemmas.List.Elements.{All-tail}
use Rattle.std.specs.Prelude.{All}
use Rattle.std.specs.Vec.Iter.{into_iter_items, into_iter_len}
use Rattle.mpc_tree.specs.declared.threads.Drawn.{Drawn}
use Rattle.mpc_tree.specs.Pieces.{with_drawn}
use Rattle.mpc_tree.proofs.threads.lay_all.Goals as goal

pub loop-one-preserved : goal.loop-one-preserved
loop-one-preserved c =
    let left = into_iter_items c.next.new.self in
    let steps : (into_iter_items c.loop-one.one-iterator ≡ c.in-Some.one ∷ left) × (into_iter_len c.next.new.self + 1 ≡ into_iter_len c.loop-one.one-iterator) = c.in-Some.ensures.steps in
    let same : length c.lay.new.pieces.items ≡ length c.loop-one.pieces.items = ap length c.lay.ensures ∙ simp length-set in
    let whole : All (λ (d : Drawn). d.piece < length c.loop-one.pieces.items) (c.in-Some.one ∷ left) = subst (All (λ (d : Drawn). d.piece < length c.loop-one.pieces.items)) steps.0 c.loop-one.invariant.within in
    record {
      laid = c.loop-one.invariant.laid ∙ ap (with_drawn c.loop-one.pieces.items) steps.0 ∙ ap (λ p. with_drawn p left) (sym c.lay.ensures);
      within = subst (λ n. All (λ (d : Drawn). d.piece < n) left) (sym same) (All-tail (λ (d : Drawn). d.piece < length c.loop-one.pieces.items) c.in-Some.one left whole);
      count = omega (arith, steps.1, c.loop-one.invariant.count, ap length steps.0);
    }
