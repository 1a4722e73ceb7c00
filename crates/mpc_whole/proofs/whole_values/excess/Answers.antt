use Rattle.std.proofs.Common.{◌≡◌, ℕ, ℤ, pos, ◌∙◌, ◌<◌, ◌≤◌, ◌^◌, ◌+ℤ◌, ◌*ℤ◌, neg_ℤ, [], ◌∷◌, rules, arith, sym, ap, subst, to_z, of_z, unsigned_abs, FitsSigned}
use Rattle.std.specs.Int.{w64, w128}
use lib.Signed.{mag}
use Rattle.std.proofs.lemmas.Int.{to_z-of_z}
use Rattle.std.proofs.lemmas.Option.{IfSome_then}
use Rattle.mpc_exact.proofs.IntRing.{int_reads, by_ring_ℤ}
use Rattle.mpc_runs.proofs.WholeWidths.{product_room, back128, both_back}
use Rattle.mpc_whole.proofs.whole_values.excess.Goals as goal

-- a sum minus g d
products_turned : (t g d : ℤ) → t +ℤ (g *ℤ neg_ℤ d) ≡ t +ℤ neg_ℤ (g *ℤ d)
products_turned t g d = by_ring_ℤ (t ∷ g ∷ d ∷ []) (search int_reads depth 30) (search int_reads depth 30) tt

excess_is : (g : ℤ) (den : ℕ) (whole qs n p t r : ℤ) → FitsSigned w64 g → FitsSigned w64 qs → FitsSigned w64 n → mag p < 2 ^ 127 → mag t < 2 ^ 127 → mag r < 2 ^ 127 →
    qs ≡ pos den → n ≡ neg_ℤ (to_z w64 (of_z w64 qs)) → p ≡ to_z w64 (of_z w64 g) *ℤ to_z w64 (of_z w64 n) → t ≡ whole → r ≡ to_z w128 (of_z w128 t) +ℤ to_z w128 (of_z w128 p) →
    to_z w128 (of_z w128 r) ≡ whole +ℤ neg_ℤ (g *ℤ pos den)
excess_is g den whole qs n p t r fg fq fn mp mt mr e h a b s =
    let turned : n ≡ neg_ℤ (pos den) = h ∙ ap neg_ℤ (to_z-of_z w64 qs fq ∙ e) in
    let second : p ≡ g *ℤ neg_ℤ (pos den) = both_back p g n fg fn a ∙ ap (λ z. g *ℤ z) turned in
    back128 r mr ∙ s ∙ (λ i. (back128 t mt ∙ b) i +ℤ (back128 p mp ∙ second) i) ∙ products_turned whole g (pos den)

pub returns-clause-value : goal.returns-clause-value
returns-clause-value c =
    let q : FitsSigned w64 c.signed.result = search rules in
    let n : FitsSigned w64 c.negative.result = search rules in
    IfSome_then c.small.result c.small.ensures.value
    (λ z is. is ∙ excess_is c.args.limit c.args.den _ _ _ _ _ _ c.ranges.limit q n c.product-at_bound.type_inv c.wide_row_times.type_inv c.sum-over.type_inv
    c.signed.ensures.value c.negative.ensures.value c.product-at_bound.ensures c.wide_row_times.ensures.value c.sum-over.ensures)

pub sum-over-requires-clause-left : goal.sum-over-requires-clause-left
sum-over-requires-clause-left c =
    let h : unsigned_abs c.wide_row_times.result ≤ 2 ^ 125 = (let s = c.wide_row_times.ensures.small in omega arith) in
    subst (λ z. unsigned_abs z ≤ 2 ^ 125) (sym (back128 c.wide_row_times.result c.wide_row_times.type_inv)) h

pub sum-over-requires-clause-right : goal.sum-over-requires-clause-right
sum-over-requires-clause-right c = let n : FitsSigned w64 c.negative.result = search rules in product_room c.product-at_bound.result c.args.limit c.negative.result c.ranges.limit n c.product-at_bound.type_inv c.product-at_bound.ensures
