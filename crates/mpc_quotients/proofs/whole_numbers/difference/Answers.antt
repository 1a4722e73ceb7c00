use Rattle.std.proofs.Common.{◌≡◌, ◌<◌, ◌≤◌, ◌^◌, arith, ◌+ℤ◌, ◌*ℤ◌, neg_ℤ, pos, unsigned_abs, subst, sym, to_z, of_z, rules, FitsSigned}
use Rattle.std.specs.Int.{w64, w128}
use Rattle.mpc_quotients.proofs.WholeRooms.{difference_is, difference_small}
use Rattle.mpc_runs.proofs.WholeWidths.{product_within}
use Rattle.mpc_quotients.proofs.whole_numbers.difference.Goals as goal
use Rattle.mpc_quotients.proofs.whole_numbers.difference.Goals.{After-sum}

value : (c : After-sum) → to_z w128 (of_z w128 c.sum.result) ≡ (c.args.entry *ℤ pos c.args.pivot) +ℤ neg_ℤ (c.args.factor *ℤ c.args.top)
value c =
    let f : FitsSigned w64 c.signed.result = search rules in
    let g : FitsSigned w64 c.negative.result = search rules in
    difference_is c.args.entry c.args.factor c.args.top c.args.pivot _ _ _ _ _ c.ranges.entry c.ranges.factor c.ranges.top f g c.product-first.type_inv c.product-second.type_inv c.sum.type_inv
    c.signed.ensures.value c.negative.ensures.value c.product-first.ensures c.product-second.ensures c.sum.ensures

pub returns-clause-value : goal.returns-clause-value
returns-clause-value c = value c

pub returns-clause-small : goal.returns-clause-small
returns-clause-small c =
    subst (λ z. unsigned_abs z < 2 ^ 127) (sym (value c)) (difference_small c.args.entry c.args.factor c.args.top c.args.pivot c.requires.v_small c.requires.k_small c.requires.x_small c.requires.q_small)

pub sum-requires-clause-left : goal.sum-requires-clause-left
sum-requires-clause-left c =
    let f : FitsSigned w64 c.signed.result = search rules in
    let r = product_within c.product-first.result c.args.entry c.signed.result (2 ^ 62) (2 ^ 62) c.ranges.entry f c.product-first.type_inv c.product-first.ensures c.requires.v_small (subst (λ z. unsigned_abs z ≤ 2 ^ 62) (sym c.signed.ensures.value) c.requires.q_small) in
    omega arith

pub sum-requires-clause-right : goal.sum-requires-clause-right
sum-requires-clause-right c =
    let g : FitsSigned w64 c.negative.result = search rules in
    let r = product_within c.product-second.result c.negative.result c.args.top (2 ^ 62) (2 ^ 62) g c.ranges.top c.product-second.type_inv c.product-second.ensures c.negative.ensures.small c.requires.x_small in
    omega arith
