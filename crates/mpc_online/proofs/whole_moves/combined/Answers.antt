use Rattle.std.proofs.Common.{◌≡◌, ◌≤◌, ◌^◌, ℤ, pos, get_or, unsigned_abs, to_z, of_z, ◌+ℤ◌, ◌*ℤ◌, sym, ◌∙◌, subst, arith}
use Rattle.std.specs.Int.{w128}
use Rattle.mpc_online.proofs.WholeDots.{read_wide}
use Rattle.mpc_online.proofs.WholeMoves.{found_more, number_small, number_times_small, factor_read, factor_small}
use Rattle.mpc_online.proofs.whole_moves.combined.Goals as goal

pub combination-numerator-requires-clause-left_small : goal.combination-numerator-requires-clause-left_small
combination-numerator-requires-clause-left_small c =
    subst (λ z. unsigned_abs z ≤ 2 ^ 124) (sym (factor_read c.args.point.now c.loop-index.index c.args.left (factor_small c.args.point.now c.args.left c.requires.left_small)))
    (number_times_small c.args.point.now c.loop-index.index c.args.left c.requires.left_small)

pub combination-numerator-requires-clause-right_small : goal.combination-numerator-requires-clause-right_small
combination-numerator-requires-clause-right_small c =
    subst (λ z. unsigned_abs z ≤ 2 ^ 124) (sym (factor_read c.args.direction.now c.loop-index.index c.args.right (factor_small c.args.direction.now c.args.right c.requires.right_small)))
    (number_times_small c.args.direction.now c.loop-index.index c.args.right c.requires.right_small)

pub loop-index-preserved : goal.loop-index-preserved
loop-index-preserved c =
    let z : ℤ = to_z w128 (of_z w128 c.combination-numerator.result) in
    let s = c.combination-numerator.ensures.small in
    let back = read_wide c.combination-numerator.result (omega (arith, s)) in
    let size : unsigned_abs z ≤ 2 ^ 125 = subst (λ u. unsigned_abs u ≤ 2 ^ 125) (sym back) s in
    let m = c.max-most.ensures in
    let e : c.unsigned_abs.result ≡ unsigned_abs z = c.unsigned_abs.ensures.value in
    let a = read_wide (get_or c.args.point.now.numerators c.loop-index.index (pos 0)) (number_small c.args.point.now c.loop-index.index) in
    let b = read_wide (get_or c.args.direction.now.numerators c.loop-index.index (pos 0)) (number_small c.args.direction.now c.loop-index.index) in
    found_more (2 ^ 125) (λ j v. v ≡ get_or c.args.point.now.numerators j (pos 0) *ℤ to_z w128 (of_z w128 c.args.left) +ℤ get_or c.args.direction.now.numerators j (pos 0) *ℤ to_z w128 (of_z w128 c.args.right)) c.args.den c.loop-index.numerators c.loop-index.most c.loop-index.index c.max-most.result z
    (omega (arith, c.loop-index-test.true, c.requires.few)) (omega (arith, m)) (omega (arith, m, e)) (let room = c.loop-index.invariant.most_small in omega (arith, m, e, room, size))
    (back ∙ c.combination-numerator.ensures.value ∙ (λ i. a i *ℤ to_z w128 (of_z w128 c.args.left) +ℤ b i *ℤ to_z w128 (of_z w128 c.args.right))) c.loop-index.invariant
