use Rattle.std.proofs.Common.{◌≡◌, ◌<◌, ◌≤◌, ℤ, pos, get_or, unsigned_abs, to_z, of_z, ◌*ℤ◌, sym, ◌∙◌, ap, subst, arith}
use Rattle.std.specs.Int.{◌∣◌, w128}
use Rattle.mpc_online.proofs.WholeDots.{read_wide, number_at}
use Rattle.mpc_online.proofs.WholeMoves.{found_more, lowest_over, lowest_some, number_small}
use Rattle.mpc_online.proofs.whole_moves.lowest.Goals as goal

pub divided-numerator-requires-clause-divides : goal.divided-numerator-requires-clause-divides
divided-numerator-requires-clause-divides c =
    subst (λ z. c.common_divisor-shared.result ∣ unsigned_abs z) (sym (read_wide (get_or c.args.numbers.numerators c.loop-index.index (pos 0)) (number_small c.args.numbers c.loop-index.index)))
    (c.common_divisor-shared.ensures.of_numerators c.loop-index.index (omega (arith, c.loop-index-test.true)))

pub loop-index-preserved : goal.loop-index-preserved
loop-index-preserved c =
    let w = c.args.numbers in
    let a : ℤ = get_or w.numerators c.loop-index.index (pos 0) in
    let z : ℤ = to_z w128 (of_z w128 c.divided-numerator.result) in
    let back = read_wide c.divided-numerator.result c.divided-numerator.ensures.small in
    let source = read_wide a (number_small w c.loop-index.index) in
    let size : unsigned_abs z ≤ w.most =
    (let h : unsigned_abs c.divided-numerator.result ≤ unsigned_abs a = subst (λ u. unsigned_abs c.divided-numerator.result ≤ unsigned_abs u) source c.divided-numerator.ensures.size in
    let b = number_at w.numerators w.most c.loop-index.index w.at_most.numbers in
    subst (λ u. unsigned_abs u ≤ w.most) (sym back) (omega (arith, h, b))) in
    let m = c.max-most.ensures in
    let e : c.unsigned_abs.result ≡ unsigned_abs z = c.unsigned_abs.ensures.value in
    found_more w.most (λ j v. v *ℤ pos c.common_divisor-shared.result ≡ get_or w.numerators j (pos 0)) c.part-den.result c.loop-index.numerators c.loop-index.most c.loop-index.index c.max-most.result z
    (omega (arith, c.loop-index-test.true, c.requires)) (omega (arith, m)) (omega (arith, m, e)) (let r = c.loop-index.invariant.most_small in omega (arith, m, e, r, size))
    (ap (λ u. u *ℤ pos c.common_divisor-shared.result) back ∙ c.divided-numerator.ensures.value ∙ source) c.loop-index.invariant

pub invariant_of-result : goal.invariant_of-result
invariant_of-result c = record {
  at_most = record {
    size = c.loop-index.invariant.size;
    numbers = c.loop-index.invariant.numbers;
    some = subst (λ n. 0 < n) (sym c.part-den.ensures) (lowest_some c.args.numbers.den c.common_divisor-shared.result c.args.numbers.at_most.some c.common_divisor-shared.ensures.of_den);
    den_small = c.loop-index.invariant.den_small;
    most_small = (let a = c.loop-index.invariant.most_small in let b = c.args.numbers.at_most.most_small in omega (arith, a, b));
  };
}

pub returns : goal.returns
returns c =
    let last : c.args.count ≤ c.loop-index.index = omega (arith, c.loop-index-test.false) in
    lowest_over c.args.numbers c.common_divisor-shared.result c.args.count c.common_divisor-shared.ensures.positive c.common_divisor-shared.ensures.of_den _ c.part-den.ensures
    (λ k h. c.loop-index.invariant.entries k (omega (arith, h, last))) (let s = c.loop-index.invariant.size in omega (arith, s, c.requires))
