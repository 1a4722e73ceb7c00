use Rattle.std.proofs.Common.{◌+◌, ◌*◌, ◌≤◌, ◌^◌, subst, arith}
use Rattle.mpc_scaled.specs.Scaled.{scale_at}
use Rattle.mpc_beginnings.proofs.kept.is_light.Goals as goal

pub returns : goal.returns
returns c =
    let s = c.args.system.now in
    let k = c.args.numbers.now.scales.now in
    let p = c.args.from in
    let w = c.unknowns-width.result in
    let den : p.greatest_den * scale_at k (w + c.args.row) ≤ 2 ^ 125 = (let e = c.in_ok-small_product.ensures.value in let h = c.in_ok-small_product.ensures.small in omega arith) in
    let pivots : p.product * scale_at k (w + c.args.row) ≤ 2 ^ 125 = (let e = c.in_ok-small_product-2.ensures.value in let h = c.in_ok-small_product-2.ensures.small in omega arith) in
    let weight : c.in_ok-weight.weight ≤ 2 ^ 125 = (let e = c.in_ok-small_product-3.ensures.value in let h = c.in_ok-small_product-3.ensures.small in omega arith) in
    record {
      few = c.requires.few;
      terms = subst (λ n. n ≤ 2 ^ 125) c.in_ok-weight.ensures weight;
      den = subst (λ n. p.greatest_den * scale_at k (n + c.args.row) ≤ 2 ^ 125) c.unknowns-width.ensures den;
      pivots = subst (λ n. p.product * scale_at k (n + c.args.row) ≤ 2 ^ 125) c.unknowns-width.ensures pivots;
    }
