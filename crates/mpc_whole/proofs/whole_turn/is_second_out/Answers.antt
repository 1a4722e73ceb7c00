use Rattle.std.proofs.Common.{◌≡◌, ◌∙◌, ◌+◌, ◌*◌, length, ◌*ℤ◌, ◌^◌, ◌≤◌, ◌<ℤ◌, ◌≤ℤ◌, ap, sym, subst, subst₂, pos, FitsSigned, to_z, of_z, rules, ◌<◌, arith}
use Rattle.std.specs.Int.{w64, w128}
use Rattle.mpc_exact.specs.Rational.{frac}
use Rattle.mpc_rows.specs.Run.{bound, value}
use Rattle.mpc_rows.specs.LinearSystem.{height}
use Rattle.mpc_runs.specs.WholeNumbers.{whole_total, HasRoom}
use Rattle.mpc_scaled.specs.Scaled.{whole_at, whole_cell, scale_at, HasSides}
use Rattle.mpc_runs.proofs.LeftSides.{bound-first}
use Rattle.mpc_runs.proofs.WholeWidths.{back128, both_back}
use Rattle.mpc_whole.proofs.WholeTurns.{out_next, out_not, lt_so, not_lt_so}
use Rattle.mpc_whole.proofs.WholeExchange.{rows_in}
use Rattle.mpc_whole.proofs.whole_turn.is_second_out.Goals as goal
use Rattle.mpc_whole.proofs.whole_turn.is_second_out.Goals.{After-product-next}

bound_is : (c : After-product-next) → HasSides c.args.system.now c.args.frame.now.scales.now c.args.frame.now.b.now → (bound c.args.system.now (c.args.system.now.width + c.args.side)).first ≡ frac (whole_at c.args.frame.now.b.now c.args.side) (scale_at c.args.frame.now.scales.now (c.args.system.now.width + c.args.side))
bound_is c w = bound-first c.args.system.now c.args.side ∙ w.sides c.args.side c.requires.side

scale : (c : After-product-next) → 0 < scale_at c.args.frame.now.scales.now (c.args.system.now.width + c.args.side)
scale c = c.requires.numbers.whole.scales.some (c.args.system.now.width + c.args.side) (let h = c.requires.side in omega arith)

second_is : (c : After-product-next) → to_z w128 (of_z w128 c.wide_row_times-second.result) ≡ whole_total c.args.system.now.width (λ j. whole_cell c.args.system.now.width c.args.frame.now.a.now c.args.side j *ℤ whole_at c.args.seconds.now j)
second_is c =
    back128 _ c.wide_row_times-second.type_inv ∙ c.wide_row_times-second.ensures.value
    ∙ ap (λ w. whole_total w (λ j. whole_cell w c.args.frame.now.a.now c.args.side j *ℤ whole_at c.args.seconds.now j)) c.requires.parts.second_size

next_is : (c : After-product-next) → to_z w128 (of_z w128 c.product-next.result) ≡ c.step_of-step.result *ℤ pos c.args.den
next_is c =
    let f : FitsSigned w64 c.step_of-step.result = search rules in
    let g : FitsSigned w64 c.signed.result = search rules in
    back128 _ c.product-next.type_inv ∙ both_back _ _ _ f g c.product-next.ensures ∙ ap (λ z. c.step_of-step.result *ℤ z) c.signed.ensures.value

pub returns-then-next-second : goal.returns-then-next-second
returns-then-next-second c = λ p some v w.
    let at = (goal.at.returns-then-next-second c).After-product-next in
    out_next (bound c.args.system.now (c.args.system.now.width + c.args.side)) (value c.args.system.now p (c.args.system.now.width + c.args.side)) _ _ (scale_at c.args.frame.now.scales.now (c.args.system.now.width + c.args.side)) c.args.den (scale at) some (bound_is at w) (v.first c.args.side c.requires.side) _ _ c.step_of-step.ensures.value (v.second c.args.side c.requires.side)
    c.requires.not_above c.requires.not_below
    (subst₂ (λ x y. x <ℤ y) (next_is at) (second_is at) (lt_so _ _ c.if-next-second.true))

pub returns : goal.returns
returns c = λ p some v w.
    let at = (goal.at.returns c).After-product-next in
    out_not (bound c.args.system.now (c.args.system.now.width + c.args.side)) (value c.args.system.now p (c.args.system.now.width + c.args.side)) _ _ (scale_at c.args.frame.now.scales.now (c.args.system.now.width + c.args.side)) c.args.den (scale at) some (bound_is at w) (v.first c.args.side c.requires.side) _ _ c.step_of-step.ensures.value (v.second c.args.side c.requires.side)
    c.requires.not_above c.requires.not_below
    (subst₂ (λ x y. x ≤ℤ y) (second_is at) (next_is at) (not_lt_so _ _ c.if-next-second.false))

pub wide_row_times-second-requires-clause-inside : goal.wide_row_times-second-requires-clause-inside
wide_row_times-second-requires-clause-inside c =
    subst (λ w. c.args.side * w + w ≤ length c.args.frame.now.a.now) (sym c.requires.parts.second_size)
    (rows_in c.args.system.now.width c.args.side (height c.args.system.now) (length c.args.frame.now.a.now) c.requires.side c.requires.numbers.whole.entries_size)

pub wide_row_times-second-requires-clause-room : goal.wide_row_times-second-requires-clause-room
wide_row_times-second-requires-clause-room c = subst (λ w. HasRoom w (2 ^ 62) c.args.frame.now.a.now) (sym c.requires.parts.second_size) c.requires.numbers.room
