use Rattle.std.proofs.Common.{ℕ, ◌+◌, ◌*◌, ◌<◌, ◌≤◌, ◌^◌, subst, arith, le_trans, mul-le-mul_left, mul-le-mul_right}
use Rattle.mpc_scaled.specs.Scaled.{whole_cell}
use Rattle.mpc_beginnings.specs.RunLists.{weight_of}
use Rattle.mpc_beginnings.proofs.MildShared.{weighs_at_most}
use Rattle.mpc_beginnings.proofs.kept.are_all_light.Goals as goal

pub returns : goal.returns
returns c =
    let s = c.args.system.now in
    let m = c.args.numbers.now in
    let p = c.args.from in
    let top = c.top_weight.result in
    let weight = weight_of c.args.lists.now p.product in
    let den : p.greatest_den * m.most_scale ≤ 2 ^ 125 = (let e = c.in_ok-small_product.ensures.value in let h = c.in_ok-small_product.ensures.small in omega arith) in
    let pivots : p.product * m.most_scale ≤ 2 ^ 125 = (let e = c.in_ok-small_product-2.ensures.value in let h = c.in_ok-small_product-2.ensures.small in omega arith) in
    let terms : c.args.norm * top ≤ 2 ^ 125 = (let e = c.in_ok-small_product-3.ensures.value in let h = c.in_ok-small_product-3.ensures.small in omega arith) in
    let tops : (j : ℕ) → j < s.width → weight j ≤ top = subst (λ w. (j : ℕ) → j < w → weight j ≤ top) c.unknowns-width.ensures c.top_weight.ensures in
    λ i h. record {
      few = c.requires.few;
      terms = le_trans (weighs_at_most weight (whole_cell s.width m.a.now i) m.most_entry top s.width (λ j. c.requires.numbers.entries.each (i * s.width + j)) tops) (le_trans (mul-le-mul_right top c.requires.norm) terms);
      den = le_trans (mul-le-mul_left p.greatest_den (c.requires.numbers.scales (s.width + i))) den;
      pivots = le_trans (mul-le-mul_left p.product (c.requires.numbers.scales (s.width + i))) pivots;
    }
