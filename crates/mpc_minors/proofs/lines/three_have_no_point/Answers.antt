use Rattle.std.proofs.Common.{arith, pos}
use Rattle.mpc_scaled.specs.Scaled.{whole_at}
use Rattle.mpc_minors.proofs.LineNumbers.{side_small, next_sum, between, still_between, read_between}
use Rattle.mpc_minors.proofs.LineWeights.{two_refuted}
use Rattle.mpc_minors.proofs.lines.three_have_no_point.Goals as goal

pub weighed-sum-requires-clause-side_small : goal.weighed-sum-requires-clause-side_small
weighed-sum-requires-clause-side_small c = side_small 2 c.args.lines.now c.requires 0 (omega arith)

pub weighed-sum-requires-2-clause-side_small : goal.weighed-sum-requires-2-clause-side_small
weighed-sum-requires-2-clause-side_small c = side_small 2 c.args.lines.now c.requires 1 (omega arith)

pub weighed-sum-requires-3-clause-side_small : goal.weighed-sum-requires-3-clause-side_small
weighed-sum-requires-3-clause-side_small c = side_small 2 c.args.lines.now c.requires 2 (omega arith)

pub returns : goal.returns
returns c opposite =
    let lines = c.args.lines.now in
    let s₀ = next_sum (pos 0) (pos 0) c.minor_of_two-first.result (whole_at lines 2) c.weighed-sum.result c.weighed-sum.ensures.value (λ _. pos 0) c.minor_of_two-first.type_inv (c.requires.sides 0 (omega arith)) c.weighed-sum.type_inv in
    let s₁ = next_sum _ _ c.minor_of_two-second.result (whole_at lines 5) c.weighed-sum-2.result c.weighed-sum-2.ensures.value s₀ c.minor_of_two-second.type_inv (c.requires.sides 1 (omega arith)) c.weighed-sum-2.type_inv in
    let s₂ = next_sum _ _ c.minor_of_two-third.result (whole_at lines 8) c.weighed-sum-3.result c.weighed-sum-3.ensures.value s₁ c.minor_of_two-third.type_inv (c.requires.sides 2 (omega arith)) c.weighed-sum-3.type_inv in
    let b₀ = between c.min-least.result c.max-greatest.result c.minor_of_two-first.result c.minor_of_two-first.type_inv c.min-least.ensures.self_bound c.max-greatest.ensures.self_bound in
    let b₁ = between c.min-least.result c.max-greatest.result c.minor_of_two-second.result c.minor_of_two-second.type_inv c.min-least.ensures.other_bound c.max-greatest.ensures.other_bound in
    let b₂ = between c.min-least-2.result c.max-greatest-2.result c.minor_of_two-third.result c.minor_of_two-third.type_inv c.min-least-2.ensures.other_bound c.max-greatest-2.ensures.other_bound in
    let still = still_between c.min-least.result c.max-greatest.result c.min-least.type_inv c.max-greatest.type_inv c.min-least-2.result c.max-greatest-2.result c.min-least-2.ensures.self_bound c.max-greatest-2.ensures.self_bound in
    let last = read_between c.min-least-2.result c.max-greatest-2.result c.min-least-2.type_inv c.max-greatest-2.type_inv in
    two_refuted lines _ _ _ _ _ _ c.minor_of_two-first.ensures.value c.minor_of_two-second.ensures.value c.minor_of_two-third.ensures.value
    (last _ (still _ b₀)) (last _ (still _ b₁)) (last _ b₂) s₂ (c.are_opposite.ensures opposite)
