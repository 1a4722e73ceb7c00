use Rattle.std.proofs.Common.{arith, pos, unsigned_abs, ap}
use Rattle.mpc_scaled.specs.Scaled.{whole_at}
use Rattle.mpc_runs.proofs.WholeWidths.{back128}
use Rattle.mpc_minors.proofs.LineNumbers.{side_small, next_sum, between, still_between, read_between}
use Rattle.mpc_minors.proofs.LineWeights.{three_refuted}
use Rattle.mpc_minors.proofs.lines.four_have_no_point.Goals as goal

pub weighed-sum-requires-clause-side_small : goal.weighed-sum-requires-clause-side_small
weighed-sum-requires-clause-side_small c = side_small 3 c.args.lines.now c.requires 0 (omega arith)

pub weighed-sum-requires-2-clause-side_small : goal.weighed-sum-requires-2-clause-side_small
weighed-sum-requires-2-clause-side_small c = side_small 3 c.args.lines.now c.requires 1 (omega arith)

pub weighed-sum-requires-3-clause-side_small : goal.weighed-sum-requires-3-clause-side_small
weighed-sum-requires-3-clause-side_small c = side_small 3 c.args.lines.now c.requires 2 (omega arith)

pub weighed-sum-requires-4-clause-side_small : goal.weighed-sum-requires-4-clause-side_small
weighed-sum-requires-4-clause-side_small c = side_small 3 c.args.lines.now c.requires 3 (omega arith)

pub weighed-sum-requires-4-clause-sum_small : goal.weighed-sum-requires-4-clause-sum_small
weighed-sum-requires-4-clause-sum_small c =
    let first = ap unsigned_abs (back128 c.weighed-sum.result c.weighed-sum.type_inv) in
    let second = ap unsigned_abs (back128 c.weighed-sum-2.result c.weighed-sum-2.type_inv) in
    let third = ap unsigned_abs (back128 c.weighed-sum-3.result c.weighed-sum-3.type_inv) in
    omega (arith, c.weighed-sum.ensures.size, c.weighed-sum-2.ensures.size, c.weighed-sum-3.ensures.size)

pub returns : goal.returns
returns c opposite =
    let lines = c.args.lines.now in
    let s₀ = next_sum (pos 0) (pos 0) c.minor_of_three-first.result (whole_at lines 3) c.weighed-sum.result c.weighed-sum.ensures.value (λ _. pos 0) c.minor_of_three-first.type_inv (c.requires.sides 0 (omega arith)) c.weighed-sum.type_inv in
    let s₁ = next_sum _ _ c.minor_of_three-second.result (whole_at lines 7) c.weighed-sum-2.result c.weighed-sum-2.ensures.value s₀ c.minor_of_three-second.type_inv (c.requires.sides 1 (omega arith)) c.weighed-sum-2.type_inv in
    let s₂ = next_sum _ _ c.minor_of_three-third.result (whole_at lines 11) c.weighed-sum-3.result c.weighed-sum-3.ensures.value s₁ c.minor_of_three-third.type_inv (c.requires.sides 2 (omega arith)) c.weighed-sum-3.type_inv in
    let s₃ = next_sum _ _ c.minor_of_three-fourth.result (whole_at lines 15) c.weighed-sum-4.result c.weighed-sum-4.ensures.value s₂ c.minor_of_three-fourth.type_inv (c.requires.sides 3 (omega arith)) c.weighed-sum-4.type_inv in
    let b₀ = between c.min-least.result c.max-greatest.result c.minor_of_three-first.result c.minor_of_three-first.type_inv c.min-least.ensures.self_bound c.max-greatest.ensures.self_bound in
    let b₁ = between c.min-least.result c.max-greatest.result c.minor_of_three-second.result c.minor_of_three-second.type_inv c.min-least.ensures.other_bound c.max-greatest.ensures.other_bound in
    let b₂ = between c.min-least-2.result c.max-greatest-2.result c.minor_of_three-third.result c.minor_of_three-third.type_inv c.min-least-2.ensures.other_bound c.max-greatest-2.ensures.other_bound in
    let b₃ = between c.min-least-3.result c.max-greatest-3.result c.minor_of_three-fourth.result c.minor_of_three-fourth.type_inv c.min-least-3.ensures.other_bound c.max-greatest-3.ensures.other_bound in
    let still = still_between c.min-least.result c.max-greatest.result c.min-least.type_inv c.max-greatest.type_inv c.min-least-2.result c.max-greatest-2.result c.min-least-2.ensures.self_bound c.max-greatest-2.ensures.self_bound in
    let longer = still_between c.min-least-2.result c.max-greatest-2.result c.min-least-2.type_inv c.max-greatest-2.type_inv c.min-least-3.result c.max-greatest-3.result c.min-least-3.ensures.self_bound c.max-greatest-3.ensures.self_bound in
    let last = read_between c.min-least-3.result c.max-greatest-3.result c.min-least-3.type_inv c.max-greatest-3.type_inv in
    three_refuted lines _ _ _ _ _ _ _ c.minor_of_three-first.ensures.value c.minor_of_three-second.ensures.value c.minor_of_three-third.ensures.value c.minor_of_three-fourth.ensures.value
    (last _ (longer _ (still _ b₀))) (last _ (longer _ (still _ b₁))) (last _ (longer _ b₂)) (last _ b₃) s₃ (c.are_opposite.ensures opposite)
