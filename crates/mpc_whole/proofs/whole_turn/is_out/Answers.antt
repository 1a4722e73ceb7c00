use Rattle.std.proofs.Common.{◌≡◌, ◌∙◌, ◌+◌, ◌*◌, length, ◌*ℤ◌, ◌^◌, ◌≤◌, unsigned_abs, ◌<ℤ◌, ◌≤ℤ◌, ap, sym, subst, subst₂, pos, get_or, FitsSigned, to_z, of_z, rules, ◌<◌, arith}
use Rattle.std.specs.Int.{w64, w128}
use Rattle.mpc_exact.specs.Rational.{frac}
use Rattle.mpc_rows.specs.Run.{bound, value}
use Rattle.mpc_rows.specs.LinearSystem.{height}
use Rattle.mpc_runs.specs.WholeNumbers.{whole_total, HasRoom}
use Rattle.mpc_scaled.specs.Scaled.{whole_at, whole_cell, scale_at, HasSides}
use Rattle.mpc_runs.proofs.LeftSides.{bound-first}
use Rattle.mpc_runs.proofs.WholeWidths.{back128, both_back}
use Rattle.mpc_whole.proofs.WholeTurns.{out_above, out_below, lt_so, not_lt_so}
use Rattle.mpc_whole.proofs.WholeExchange.{rows_in}
use Rattle.mpc_whole.proofs.whole_turn.is_out.Goals as goal
use Rattle.mpc_whole.proofs.whole_turn.is_out.Goals.{After-product-limit}

pub row_times-first-requires-clause-result_small : goal.row_times-first-requires-clause-result_small
row_times-first-requires-clause-result_small c = λ t. subst (λ w. unsigned_abs (whole_total w (λ j. whole_cell w c.args.frame.now.a.now c.args.side j *ℤ whole_at c.args.firsts.now j)) ≤ 2 ^ 62) (sym c.requires.parts.first_size) ((c.requires.short t).first c.args.side)

limit_is : (c : After-product-limit) → to_z w128 (of_z w128 c.product-limit.result) ≡ whole_at c.args.frame.now.b.now c.args.side *ℤ pos c.args.den
limit_is c =
    let f : FitsSigned w64 (get_or c.args.frame.now.b.now c.args.side (pos 0)) = search rules in
    let g : FitsSigned w64 c.signed.result = search rules in
    back128 _ c.product-limit.type_inv ∙ both_back _ _ _ f g c.product-limit.ensures ∙ ap (λ z. whole_at c.args.frame.now.b.now c.args.side *ℤ z) c.signed.ensures.value

first_is : (c : After-product-limit) → to_z w128 (of_z w128 c.row_times-first.result) ≡ whole_total c.args.system.now.width (λ j. whole_cell c.args.system.now.width c.args.frame.now.a.now c.args.side j *ℤ whole_at c.args.firsts.now j)
first_is c =
    back128 _ c.row_times-first.type_inv ∙ c.row_times-first.ensures.value
    ∙ ap (λ w. whole_total w (λ j. whole_cell w c.args.frame.now.a.now c.args.side j *ℤ whole_at c.args.firsts.now j)) c.requires.parts.first_size

bound_is : (c : After-product-limit) → HasSides c.args.system.now c.args.frame.now.scales.now c.args.frame.now.b.now → (bound c.args.system.now (c.args.system.now.width + c.args.side)).first ≡ frac (whole_at c.args.frame.now.b.now c.args.side) (scale_at c.args.frame.now.scales.now (c.args.system.now.width + c.args.side))
bound_is c w = bound-first c.args.system.now c.args.side ∙ w.sides c.args.side c.requires.side

scale : (c : After-product-limit) → 0 < scale_at c.args.frame.now.scales.now (c.args.system.now.width + c.args.side)
scale c = c.requires.numbers.whole.scales.some (c.args.system.now.width + c.args.side) (let h = c.requires.side in omega arith)

pub returns-then-limit-first : goal.returns-then-limit-first
returns-then-limit-first c = λ p some v w.
    let at = (goal.at.returns-then-limit-first c).After-product-limit in
    out_above (bound c.args.system.now (c.args.system.now.width + c.args.side)) (value c.args.system.now p (c.args.system.now.width + c.args.side)) _ _ (scale_at c.args.frame.now.scales.now (c.args.system.now.width + c.args.side)) c.args.den (scale at) some (bound_is at w) (v.first c.args.side c.requires.side)
    (subst₂ (λ x y. x <ℤ y) (limit_is at) (first_is at) (lt_so _ _ c.if-limit-first.true))

pub returns-then-first-limit : goal.returns-then-first-limit
returns-then-first-limit c = λ p some v w.
    let at = (goal.at.returns-then-first-limit c).After-product-limit in
    out_below (bound c.args.system.now (c.args.system.now.width + c.args.side)) (value c.args.system.now p (c.args.system.now.width + c.args.side)) _ _ (scale_at c.args.frame.now.scales.now (c.args.system.now.width + c.args.side)) c.args.den (scale at) some (bound_is at w) (v.first c.args.side c.requires.side)
    (subst₂ (λ x y. x <ℤ y) (first_is at) (limit_is at) (lt_so _ _ c.if-first-limit.true))

pub row_times-first-requires-clause-inside : goal.row_times-first-requires-clause-inside
row_times-first-requires-clause-inside c =
    subst (λ w. c.args.side * w + w ≤ length c.args.frame.now.a.now) (sym c.requires.parts.first_size)
    (rows_in c.args.system.now.width c.args.side (height c.args.system.now) (length c.args.frame.now.a.now) c.requires.side c.requires.numbers.whole.entries_size)

pub row_times-first-requires-clause-room : goal.row_times-first-requires-clause-room
row_times-first-requires-clause-room c = subst (λ w. HasRoom w (2 ^ 62) c.args.frame.now.a.now) (sym c.requires.parts.first_size) c.requires.numbers.room

pub row_times-first-requires-clause-four : goal.row_times-first-requires-clause-four
row_times-first-requires-clause-four c = λ t. c.requires.parts.first_size ∙ c.requires.four t

pub is_second_out-requires-clause-not_above : goal.is_second_out-requires-clause-not_above
is_second_out-requires-clause-not_above c =
    let at = (goal.at.is_second_out-requires-clause-not_above c).After-product-limit in
    subst₂ (λ x y. x ≤ℤ y) (first_is at) (limit_is at) (not_lt_so _ _ c.if-limit-first.false)

pub is_second_out-requires-clause-not_below : goal.is_second_out-requires-clause-not_below
is_second_out-requires-clause-not_below c =
    let at = (goal.at.is_second_out-requires-clause-not_below c).After-product-limit in
    subst₂ (λ x y. x ≤ℤ y) (limit_is at) (first_is at) (not_lt_so _ _ c.if-first-limit.false)
