use Rattle.std.proofs.Common.{◌≡◌, ◌<◌, ◌^◌, [], get_or, sym, subst, arith}
use Rattle.mpc_space.specs.Matrix.{height}
use Rattle.mpc_wholes.specs.declared.numbers.Wholes.{Wholes}
use Rattle.mpc_wholes.specs.declared.spans.Span.{Span}
use Rattle.mpc_wholes.specs.Spans.{IsSpanOf}
use Rattle.mpc_wholes.specs.Wholes.{AreOver}
use Rattle.mpc_online.proofs.WholeDots.{read_mag}
use Rattle.mpc_online.proofs.EvenRows.{AreMade, IsProduct, made_more, product_is, even_value, even_fits}
use Rattle.mpc_online.proofs.evens.even_products.Goals as goal

pub dot_in_span-requires-clause-span : goal.dot_in_span-requires-clause-span
dot_in_span-requires-clause-span c =
    let nothing : Span = record { first = 0; end = 0 } in
    subst (λ (w : Wholes). IsSpanOf w.numerators c.args.count (get_or c.args.spans.now c.loop-index.index nothing)) (sym c.index-rows-index.is)
    (c.requires.spans.at c.loop-index.index c.index-rows-index.result nothing c.loop-index-test.true)

pub loop-index-preserved : goal.loop-index-preserved
loop-index-preserved c =
    let there = c.loop-index-test.true in
    let all = c.requires.rows.size in
    let within : c.loop-index.index < height c.args.matrix.now = omega (arith, there, all) in
    made_more _ _ _ _ _ c.in_ok-push.ensures.items
    (subst (IsProduct c.args.matrix.now c.args.den c.args.counts.now c.args.count c.loop-index.index) (sym (read_mag c.dot_in_span.result c.dot_in_span.type_inv))
    (product_is c.args.matrix.now c.args.den c.args.counts.now c.args.count c.requires.rectangular c.requires.count c.requires.whole c.requires.counts c.loop-index.index within c.index-rows-index.result
    (subst (AreOver (get_or c.args.matrix.now.rows c.loop-index.index []) c.args.den (2 ^ 44)) (sym c.index-rows-index.is) (c.requires.rows.at c.loop-index.index c.index-rows-index.result within))
    c.dot_in_span.result c.dot_in_span.ensures.size c.dot_in_span.ensures.value c.dot_in_span.ensures.fits)) c.loop-index.invariant

pub returns-clause-value : goal.returns-clause-value
returns-clause-value c =
    let last : c.loop-index.index ≡ height c.args.matrix.now = omega (arith, c.loop-index-test.false, c.loop-index.auto.index-end, c.requires.rows.size) in
    even_value c.args.matrix.now c.args.den c.args.counts.now c.args.count c.loop-index.numerators.items
    (subst (AreMade (IsProduct c.args.matrix.now c.args.den c.args.counts.now c.args.count) c.loop-index.numerators.items) last c.loop-index.invariant)

pub returns-clause-fits : goal.returns-clause-fits
returns-clause-fits c =
    let last : c.loop-index.index ≡ height c.args.matrix.now = omega (arith, c.loop-index-test.false, c.loop-index.auto.index-end, c.requires.rows.size) in
    even_fits c.args.matrix.now c.args.den c.args.counts.now c.args.count c.loop-index.numerators.items
    (subst (AreMade (IsProduct c.args.matrix.now c.args.den c.args.counts.now c.args.count) c.loop-index.numerators.items) last c.loop-index.invariant)
