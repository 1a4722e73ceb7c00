use Rattle.std.proofs.Common.{◌+◌, ◌*◌, ◌^◌, ◌<◌, ◌≤◌, unsigned_abs, to_z, of_z, sym, subst, arith}
use Rattle.std.specs.Int.{w128}
use Rattle.std.proofs.lemmas.Int.{to_z-of_z}
use Rattle.mpc_exact.specs.Rational.{frac}
use Rattle.mpc_linear.specs.SumTheorems.{IsSumSoFar}
use Rattle.mpc_wholes.specs.Sums.{AddsDot}
use Rattle.mpc_wholes.proofs.WholeDots.{mul_fits, add_fits, next_read, next_at_most, sum_more, begin, finish}
use Rattle.mpc_wholes.proofs.sums.dot_within.Goals as goal
use Rattle.mpc_wholes.proofs.sums.dot_within.Goals.{After-product-total}

room : (c : After-product-total) → unsigned_abs (to_z w128 (of_z w128 c.args.start)) + 6 * (c.args.left.now.most * c.args.right.now.most) < 2 ^ 127
room c = subst (λ z. unsigned_abs z + 6 * (c.args.left.now.most * c.args.right.now.most) < 2 ^ 127) (sym (to_z-of_z w128 c.args.start c.ranges.start)) c.requires.room

pub product-total-requires-clause-fits : goal.product-total-requires-clause-fits
product-total-requires-clause-fits c = mul_fits c.args.left.now c.args.right.now (unsigned_abs c.args.start) c.requires.room c.loop-k.k

pub overflow_add-total : goal.overflow_add-total
overflow_add-total c =
    let at = (goal.at.overflow_add-total c).After-product-total in
    add_fits c.args.left.now c.args.right.now (unsigned_abs (to_z w128 (of_z w128 c.args.start))) (room at) c.loop-k.k (omega (arith, c.loop-k-test.true, c.requires.few, c.requires.span.within)) c.product-total.result c.product-total.ensures (to_z w128 c.loop-k.total-bits) c.loop-k.invariant.size

pub loop-k-preserved : goal.loop-k-preserved
loop-k-preserved c =
    let at = (goal.at.loop-k-preserved c).After-product-total in
    let start = to_z w128 (of_z w128 c.args.start) in
    let few : c.loop-k.k < 6 = omega (arith, c.loop-k-test.true, c.requires.few, c.requires.span.within) in
    let t = to_z w128 c.loop-k.total-bits in
    let x = c.args.left.now in
    let y = c.args.right.now in
    let read = next_read x y (unsigned_abs start) (room at) c.loop-k.k few c.product-total.result c.product-total.ensures t c.loop-k.invariant.size in
    record {
      within = omega (arith, c.loop-k-test.true);
      size = subst (λ z. unsigned_abs z ≤ unsigned_abs start + (c.loop-k.k + 1) * (x.most * y.most)) (sym read) (next_at_most x y (unsigned_abs start) (room at) c.loop-k.k few c.product-total.result c.product-total.ensures t c.loop-k.invariant.size);
      so_far = λ xs ys ox oy h l. subst (λ z. IsSumSoFar (frac start (x.den * y.den)) xs ys (c.loop-k.k + 1) (frac z (x.den * y.den))) (sym read)
          (sum_more x y (unsigned_abs start) (room at) c.loop-k.k few c.product-total.result c.product-total.ensures t c.loop-k.invariant.size c.sum_theorems.ensures (frac start (x.den * y.den)) xs ys ox oy
          (omega (arith, h, c.loop-k-test.true, c.requires.span.within)) (omega (arith, l, c.loop-k-test.true, c.requires.span.within)) (c.loop-k.invariant.so_far xs ys ox oy h l));
    }

pub loop-k-init : goal.loop-k-init
loop-k-init c = record {
  within = c.requires.span.ordered;
  size = omega arith;
  so_far = begin c.sum_theorems.ensures c.args.left.now c.args.right.now c.args.count c.requires.few (to_z w128 (of_z w128 c.args.start))
      (subst (λ z. unsigned_abs z + 6 * (c.args.left.now.most * c.args.right.now.most) < 2 ^ 127) (sym (to_z-of_z w128 c.args.start c.ranges.start)) c.requires.room)
      c.args.span.now.first (omega (arith, c.requires.span.ordered, c.requires.span.within)) c.requires.span.before;
}

pub returns-clause-sum : goal.returns-clause-sum
returns-clause-sum c =
    let t = to_z w128 c.loop-k.total-bits in
    subst (λ z. AddsDot c.args.left.now c.args.right.now c.args.count z t) (to_z-of_z w128 c.args.start c.ranges.start)
    (finish c.sum_theorems.ensures c.args.left.now c.args.right.now c.args.count c.requires.few (to_z w128 (of_z w128 c.args.start)) t
    (subst (λ z. unsigned_abs z + 6 * (c.args.left.now.most * c.args.right.now.most) < 2 ^ 127) (sym (to_z-of_z w128 c.args.start c.ranges.start)) c.requires.room)
    c.loop-k.k (omega (arith, c.loop-k.invariant.within, c.requires.span.within)) (λ j h l. c.requires.span.behind j (omega (arith, h, c.loop-k-test.false)) l) c.loop-k.invariant.size c.loop-k.invariant.so_far)
