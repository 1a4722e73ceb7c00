use Rattle.std.proofs.Common.{◌≡◌, ◌∙◌, ◌+◌, ◌*◌, ◌^◌, length, ◌*ℤ◌, ◌≤◌, ◌<ℤ◌, ◌≤ℤ◌, ap, sym, subst, subst₂, pos, get_or, FitsSigned, to_z, of_z, rules, ◌<◌, arith}
use Rattle.std.specs.Int.{w64, w128}
use Rattle.std.proofs.lemmas.Int.{to_z-of_z}
use Rattle.mpc_exact.specs.Rational.{frac}
use Rattle.mpc_rows.specs.Run.{bound, value}
use Rattle.mpc_rows.specs.LinearSystem.{height}
use Rattle.mpc_runs.specs.WholeNumbers.{whole_total, HasRoom}
use Rattle.mpc_scaled.specs.Scaled.{whole_at, whole_cell, scale_at, HasSides}
use Rattle.mpc_runs.proofs.LeftSides.{bound-first}
use Rattle.mpc_whole.proofs.WholeTurns.{out_above, out_below, out_next, out_not, lt_so, not_lt_so}
use Rattle.mpc_whole.proofs.WholeExchange.{rows_in}
use Rattle.mpc_whole.proofs.wide_turn.is_out.Goals as goal
use Rattle.mpc_whole.proofs.wide_turn.is_out.Goals.{In_ok-limit, In_ok-next}

over_is : (c : In_ok-limit) → to_z w128 (of_z w128 c.in_ok-over.over) ≡ pos c.args.den
over_is c = let f : FitsSigned w128 c.in_ok-over.over = search rules in to_z-of_z w128 _ f ∙ c.in_ok-over.ensures

limit_is : (c : In_ok-limit) → to_z w128 (of_z w128 c.in_ok-limit.limit) ≡ whole_at c.args.frame.now.b.now c.args.side *ℤ pos c.args.den
limit_is c =
    let f : FitsSigned w64 (get_or c.args.frame.now.b.now c.args.side (pos 0)) = search rules in
    let g : FitsSigned w128 c.in_ok-limit.limit = search rules in
    to_z-of_z w128 _ g ∙ c.in_ok-limit.ensures ∙ (λ i. to_z-of_z w64 _ f i *ℤ over_is c i)

first_is : (c : In_ok-limit) → to_z w128 (of_z w128 c.in_ok-first.first) ≡ whole_total c.args.system.now.width (λ j. whole_cell c.args.system.now.width c.args.frame.now.a.now c.args.side j *ℤ whole_at c.args.firsts.now j)
first_is c =
    let f : FitsSigned w128 c.in_ok-first.first = search rules in
    to_z-of_z w128 _ f ∙ c.in_ok-first.ensures
    ∙ ap (λ w. whole_total w (λ j. whole_cell w c.args.frame.now.a.now c.args.side j *ℤ whole_at c.args.firsts.now j)) c.requires.first_size

bound_is : (c : In_ok-limit) → HasSides c.args.system.now c.args.frame.now.scales.now c.args.frame.now.b.now → (bound c.args.system.now (c.args.system.now.width + c.args.side)).first ≡ frac (whole_at c.args.frame.now.b.now c.args.side) (scale_at c.args.frame.now.scales.now (c.args.system.now.width + c.args.side))
bound_is c w = bound-first c.args.system.now c.args.side ∙ w.sides c.args.side c.requires.side

scale : (c : In_ok-limit) → 0 < scale_at c.args.frame.now.scales.now (c.args.system.now.width + c.args.side)
scale c = c.requires.numbers.whole.scales.some (c.args.system.now.width + c.args.side) (let h = c.requires.side in omega arith)

pub returns-then-limit-first : goal.returns-then-limit-first
returns-then-limit-first c = λ p some v w.
    let at = (goal.at.returns-then-limit-first c).In_ok-limit in
    out_above (bound c.args.system.now (c.args.system.now.width + c.args.side)) (value c.args.system.now p (c.args.system.now.width + c.args.side)) _ _ (scale_at c.args.frame.now.scales.now (c.args.system.now.width + c.args.side)) c.args.den (scale at) some (bound_is at w) (v.first c.args.side c.requires.side)
    (subst₂ (λ x y. x <ℤ y) (limit_is at) (first_is at) (lt_so _ _ c.if-limit-first.true))

pub returns-then-first-limit : goal.returns-then-first-limit
returns-then-first-limit c = λ p some v w.
    let at = (goal.at.returns-then-first-limit c).In_ok-limit in
    out_below (bound c.args.system.now (c.args.system.now.width + c.args.side)) (value c.args.system.now p (c.args.system.now.width + c.args.side)) _ _ (scale_at c.args.frame.now.scales.now (c.args.system.now.width + c.args.side)) c.args.den (scale at) some (bound_is at w) (v.first c.args.side c.requires.side)
    (subst₂ (λ x y. x <ℤ y) (first_is at) (limit_is at) (lt_so _ _ c.if-first-limit.true))

second_is : (c : In_ok-next) → to_z w128 (of_z w128 c.in_ok-second.second) ≡ whole_total c.args.system.now.width (λ j. whole_cell c.args.system.now.width c.args.frame.now.a.now c.args.side j *ℤ whole_at c.args.seconds.now j)
second_is c =
    let f : FitsSigned w128 c.in_ok-second.second = search rules in
    to_z-of_z w128 _ f ∙ c.in_ok-second.ensures
    ∙ ap (λ w. whole_total w (λ j. whole_cell w c.args.frame.now.a.now c.args.side j *ℤ whole_at c.args.seconds.now j)) c.requires.second_size

next_is : (c : In_ok-next) → to_z w128 (of_z w128 c.in_ok-over.over) ≡ pos c.args.den → to_z w128 (of_z w128 c.in_ok-next.next) ≡ c.step_of-step.result *ℤ pos c.args.den
next_is c over =
    let f : FitsSigned w64 c.step_of-step.result = search rules in
    let g : FitsSigned w128 c.in_ok-next.next = search rules in
    to_z-of_z w128 _ g ∙ c.in_ok-next.ensures ∙ (λ i. to_z-of_z w64 _ f i *ℤ over i)

pub returns-then-next-second : goal.returns-then-next-second
returns-then-next-second c = λ p some v w.
    let all = goal.at.returns-then-next-second c in
    out_next (bound c.args.system.now (c.args.system.now.width + c.args.side)) (value c.args.system.now p (c.args.system.now.width + c.args.side)) _ _ (scale_at c.args.frame.now.scales.now (c.args.system.now.width + c.args.side)) c.args.den (scale all.In_ok-limit) some (bound_is all.In_ok-limit w) (v.first c.args.side c.requires.side) _ _ c.step_of-step.ensures.value (v.second c.args.side c.requires.side)
    (subst₂ (λ x y. x ≤ℤ y) (first_is all.In_ok-limit) (limit_is all.In_ok-limit) (not_lt_so _ _ c.if-limit-first.false))
    (subst₂ (λ x y. x ≤ℤ y) (limit_is all.In_ok-limit) (first_is all.In_ok-limit) (not_lt_so _ _ c.if-first-limit.false))
    (subst₂ (λ x y. x <ℤ y) (next_is all.In_ok-next (over_is all.In_ok-limit)) (second_is all.In_ok-next) (lt_so _ _ c.if-next-second.true))

pub returns : goal.returns
returns c = λ p some v w.
    let all = goal.at.returns c in
    out_not (bound c.args.system.now (c.args.system.now.width + c.args.side)) (value c.args.system.now p (c.args.system.now.width + c.args.side)) _ _ (scale_at c.args.frame.now.scales.now (c.args.system.now.width + c.args.side)) c.args.den (scale all.In_ok-limit) some (bound_is all.In_ok-limit w) (v.first c.args.side c.requires.side) _ _ c.step_of-step.ensures.value (v.second c.args.side c.requires.side)
    (subst₂ (λ x y. x ≤ℤ y) (first_is all.In_ok-limit) (limit_is all.In_ok-limit) (not_lt_so _ _ c.if-limit-first.false))
    (subst₂ (λ x y. x ≤ℤ y) (limit_is all.In_ok-limit) (first_is all.In_ok-limit) (not_lt_so _ _ c.if-first-limit.false))
    (subst₂ (λ x y. x ≤ℤ y) (second_is all.In_ok-next) (next_is all.In_ok-next (over_is all.In_ok-limit)) (not_lt_so _ _ c.if-next-second.false))

pub wide_row_value-requires-clause-room : goal.wide_row_value-requires-clause-room
wide_row_value-requires-clause-room c = λ _. subst (λ w. HasRoom w (2 ^ 62) c.args.frame.now.a.now) (sym c.requires.first_size) c.requires.numbers.room

pub wide_row_value-requires-2-clause-room : goal.wide_row_value-requires-2-clause-room
wide_row_value-requires-2-clause-room c = λ _. subst (λ w. HasRoom w (2 ^ 62) c.args.frame.now.a.now) (sym c.requires.second_size) c.requires.numbers.room

pub wide_row_value-requires-clause-inside : goal.wide_row_value-requires-clause-inside
wide_row_value-requires-clause-inside c =
    subst (λ w. c.args.side * w + w ≤ length c.args.frame.now.a.now) (sym c.requires.first_size)
    (rows_in c.args.system.now.width c.args.side (height c.args.system.now) (length c.args.frame.now.a.now) c.requires.side c.requires.numbers.whole.entries_size)

pub wide_row_value-requires-2-clause-inside : goal.wide_row_value-requires-2-clause-inside
wide_row_value-requires-2-clause-inside c =
    subst (λ w. c.args.side * w + w ≤ length c.args.frame.now.a.now) (sym c.requires.second_size)
    (rows_in c.args.system.now.width c.args.side (height c.args.system.now) (length c.args.frame.now.a.now) c.requires.side c.requires.numbers.whole.entries_size)
