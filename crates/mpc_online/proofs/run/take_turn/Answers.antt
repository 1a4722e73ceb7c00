use Rattle.std.proofs.Common.{◌≡◌, ◌≤◌, List, length, sym, ◌∙◌, ap, subst, arith}
use Rattle.mpc_exact.specs.Rational.{ℚ}
use Rattle.mpc_space.specs.Matrix.{height}
use Rattle.mpc_online.specs.Wholes.{entries_of}
use Rattle.mpc_online.specs.Positions.{Position, goes_to, ends, row_multipliers}
use Rattle.mpc_online.specs.Turns.{IsTurn, IsDrop}
use Rattle.mpc_online.specs.Widths.{MoveFits, TurnFits}
use Rattle.mpc_online.specs.OnlineRun.{LeadsTo}
use Rattle.mpc_online.specs.Answers.{position_of, step_of}
use Rattle.mpc_online.specs.declared.Online.TheVariants.{Refuted}
use Rattle.mpc_online.specs.declared.turns.Turn.{Turn}
use Rattle.mpc_online.proofs.Advance.{err_wide, err_memory, err_same, stop_for}
use Rattle.mpc_online.proofs.Turned.{size, row_is, one_each, drop_member, drop_leads, join_leads, join_fits, wide_tests}
use Rattle.mpc_online.specs.Evens.{sides_of}
use Rattle.mpc_online.proofs.run.take_turn.Goals as goal
use Rattle.mpc_online.proofs.run.take_turn.Goals.{In_ok-after-in-Drops}

pub moved-requires-clause-few : goal.moved-requires-clause-few
moved-requires-clause-few c = let l = c.requires.position.size in let few = c.args.qp.now.is_program.few_unknowns in omega (arith, l, few)

pub moved-requires-in-Joins-clause-few : goal.moved-requires-in-Joins-clause-few
moved-requires-in-Joins-clause-few c = let l = c.requires.position.size in let few = c.args.qp.now.is_program.few_unknowns in omega (arith, l, few)

pub moved-requires-clause-direction : goal.moved-requires-clause-direction
moved-requires-clause-direction c = c.requires.direction ∙ sym c.requires.position.size

pub moved-requires-clause-multipliers : goal.moved-requires-clause-multipliers
moved-requires-clause-multipliers c = c.requires.multipliers ∙ sym c.requires.position.one_each

pub moved-requires-in-Joins-clause-direction : goal.moved-requires-in-Joins-clause-direction
moved-requires-in-Joins-clause-direction c = c.requires.direction ∙ sym c.requires.position.size

pub moved-requires-in-Joins-clause-multipliers : goal.moved-requires-in-Joins-clause-multipliers
moved-requires-in-Joins-clause-multipliers c = c.requires.multipliers ∙ sym c.requires.position.one_each

-- ---- refuted
pub returns-in_err-multipliers-in-Refuted-clause-wide : goal.returns-in_err-multipliers-in-Refuted-clause-wide
returns-in_err-multipliers-in-Refuted-clause-wide c = err_memory c.from_residual.result _ _ c.from_residual.ensures.1

pub returns-in_ok-multipliers-in-Refuted-clause-leads : goal.returns-in_ok-multipliers-in-Refuted-clause-leads
returns-in_ok-multipliers-in-Refuted-clause-leads c =
    subst (λ (t : Turn). LeadsTo c.args.qp.now (sides_of c.args.sides.now) (position_of c.args.it) c.args.direction.now.point.items c.args.direction.now.multipliers.items t (ends (Refuted c.in_ok-multipliers-in-Refuted.multipliers))) (sym c.in-Refuted.is)
    (ap (λ (m : List ℚ). ends (Refuted m)) (c.in_ok-multipliers-in-Refuted.ensures ∙ ap (row_multipliers c.args.qp.now (position_of c.args.it)) c.deref.ensures.value))

pub returns-in_ok-multipliers-in-Refuted-clause-wide : goal.returns-in_ok-multipliers-in-Refuted-clause-wide
returns-in_ok-multipliers-in-Refuted-clause-wide c = subst (λ (t : Turn). TurnFits c.args.qp.now (sides_of c.args.sides.now) (position_of c.args.it) c.args.direction.now.point.items c.args.direction.now.multipliers.items t) (sym c.in-Refuted.is) tt

-- ---- a member drops
is_drop : (c : In_ok-after-in-Drops) → IsDrop c.args.qp.now (sides_of c.args.sides.now) (position_of c.args.it) c.args.direction.now.point.items c.args.direction.now.multipliers.items c.in-Drops.place c.in-Drops.length
is_drop c = subst (λ (t : Turn). IsTurn c.args.qp.now (sides_of c.args.sides.now) (position_of c.args.it) c.args.direction.now.point.items c.args.direction.now.multipliers.items t) c.in-Drops.is c.requires.turn

pub dropped-requires-clause-member : goal.dropped-requires-clause-member
dropped-requires-clause-member c =
    drop_member c.args.qp.now (sides_of c.args.sides.now) (position_of c.args.it) c.args.direction.now.point.items c.args.direction.now.multipliers.items c.in-Drops.length (position_of c.in_ok-after-in-Drops.after) c.in_ok-after-in-Drops.ensures.value c.requires.position c.requires.direction c.requires.multipliers c.in-Drops.place
    (is_drop (goal.at.dropped-requires-clause-member c).In_ok-after-in-Drops)

pub dropped-requires-clause-one_each : goal.dropped-requires-clause-one_each
dropped-requires-clause-one_each c =
    one_each c.args.qp.now (sides_of c.args.sides.now) (position_of c.args.it) c.args.direction.now.point.items c.args.direction.now.multipliers.items c.in-Drops.length (position_of c.in_ok-after-in-Drops.after) c.in_ok-after-in-Drops.ensures.value c.requires.position c.requires.direction c.requires.multipliers

pub returns-in_err-after-in-Drops-clause-wide : goal.returns-in_err-after-in-Drops-clause-wide
returns-in_err-after-in-Drops-clause-wide c =
    err_same c.from_residual-in_err-after-in-Drops.result c.in_err-after-in-Drops.field-0.0 _ _ c.from_residual-in_err-after-in-Drops.ensures.1
    (stop_for c.in_err-after-in-Drops.field-0.0 (¬ MoveFits (position_of c.args.it) c.args.direction.now.point.items c.args.direction.now.multipliers.items c.in-Drops.length) (¬ TurnFits c.args.qp.now (sides_of c.args.sides.now) (position_of c.args.it) c.args.direction.now.point.items c.args.direction.now.multipliers.items c.args.turn)
    (λ h. subst (λ (t : Turn). ¬ TurnFits c.args.qp.now (sides_of c.args.sides.now) (position_of c.args.it) c.args.direction.now.point.items c.args.direction.now.multipliers.items t) (sym c.in-Drops.is) (λ f. h f)) c.in_err-after-in-Drops.ensures.wide)

pub returns-in_ok-after-in-Drops-clause-leads : goal.returns-in_ok-after-in-Drops-clause-leads
returns-in_ok-after-in-Drops-clause-leads c =
    subst (λ (t : Turn). LeadsTo c.args.qp.now (sides_of c.args.sides.now) (position_of c.args.it) c.args.direction.now.point.items c.args.direction.now.multipliers.items t (goes_to (position_of c.dropped.result))) (sym c.in-Drops.is)
    (drop_leads c.args.qp.now (sides_of c.args.sides.now) (position_of c.args.it) c.args.direction.now.point.items c.args.direction.now.multipliers.items c.in-Drops.length (position_of c.in_ok-after-in-Drops.after) c.in_ok-after-in-Drops.ensures.value c.requires.position c.requires.direction c.requires.multipliers c.in-Drops.place
    (position_of c.dropped.result) c.dropped.ensures)

pub returns-in_ok-after-in-Drops-clause-wide : goal.returns-in_ok-after-in-Drops-clause-wide
returns-in_ok-after-in-Drops-clause-wide c = subst (λ (t : Turn). TurnFits c.args.qp.now (sides_of c.args.sides.now) (position_of c.args.it) c.args.direction.now.point.items c.args.direction.now.multipliers.items t) (sym c.in-Drops.is) c.in_ok-after-in-Drops.ensures.wide

-- ---- the row joins
pub first_violated-requires-clause-point : goal.first_violated-requires-clause-point
first_violated-requires-clause-point c =
    size c.args.qp.now (sides_of c.args.sides.now) (position_of c.args.it) c.args.direction.now.point.items c.args.direction.now.multipliers.items c.in-Joins.length (position_of c.in_ok-after-in-Joins.after) c.in_ok-after-in-Joins.ensures.value c.requires.position c.requires.direction c.requires.multipliers

pub continued-requires : goal.continued-requires
continued-requires c =
    let l : length (entries_of c.in_ok-after-in-Joins.after.point) ≡ height c.args.qp.now.h =
    size c.args.qp.now (sides_of c.args.sides.now) (position_of c.args.it) c.args.direction.now.point.items c.args.direction.now.multipliers.items c.in-Joins.length (position_of c.in_ok-after-in-Joins.after) c.in_ok-after-in-Joins.ensures.value c.requires.position c.requires.direction c.requires.multipliers in
    let k : length (entries_of c.in_ok-together-in-Joins.together.point) ≡ length (entries_of c.in_ok-after-in-Joins.after.point) = ap (λ (q : Position). length q.point) c.in_ok-together-in-Joins.ensures in
    let few = c.args.qp.now.is_program.few_unknowns in
    omega (arith, k, l, few)

pub row_joined-requires-clause-from_one : goal.row_joined-requires-clause-from_one
row_joined-requires-clause-from_one c =
    let row : c.in_ok-after-in-Joins.after.row ≡ c.args.it.row = row_is c.args.qp.now (sides_of c.args.sides.now) (position_of c.args.it) c.args.direction.now.point.items c.args.direction.now.multipliers.items c.in-Joins.length (position_of c.in_ok-after-in-Joins.after) c.in_ok-after-in-Joins.ensures.value c.requires.position c.requires.direction c.requires.multipliers in
    let from : 1 ≤ c.args.it.row = c.requires.position.from_one in
    subst (λ r. 1 ≤ r) (sym row) from

pub row_joined-requires-clause-to_last : goal.row_joined-requires-clause-to_last
row_joined-requires-clause-to_last c =
    let row : c.in_ok-after-in-Joins.after.row ≡ c.args.it.row = row_is c.args.qp.now (sides_of c.args.sides.now) (position_of c.args.it) c.args.direction.now.point.items c.args.direction.now.multipliers.items c.in-Joins.length (position_of c.in_ok-after-in-Joins.after) c.in_ok-after-in-Joins.ensures.value c.requires.position c.requires.direction c.requires.multipliers in
    let to : c.args.it.row ≤ height c.args.qp.now.g = c.requires.position.to_last in
    let few : height c.args.qp.now.g ≤ 60 = c.args.qp.now.is_program.few_rows in
    let last : c.args.it.row ≤ 60 = omega arith in
    subst (λ r. r ≤ 60) (sym row) last

pub row_joined-requires-clause-one_each : goal.row_joined-requires-clause-one_each
row_joined-requires-clause-one_each c =
    one_each c.args.qp.now (sides_of c.args.sides.now) (position_of c.args.it) c.args.direction.now.point.items c.args.direction.now.multipliers.items c.in-Joins.length (position_of c.in_ok-after-in-Joins.after) c.in_ok-after-in-Joins.ensures.value c.requires.position c.requires.direction c.requires.multipliers

pub returns-in_err-after-in-Joins-clause-wide : goal.returns-in_err-after-in-Joins-clause-wide
returns-in_err-after-in-Joins-clause-wide c =
    err_same c.from_residual-in_err-after-in-Joins.result c.in_err-after-in-Joins.field-0.0 _ _ c.from_residual-in_err-after-in-Joins.ensures.1
    (stop_for c.in_err-after-in-Joins.field-0.0 (¬ MoveFits (position_of c.args.it) c.args.direction.now.point.items c.args.direction.now.multipliers.items c.in-Joins.length) (¬ TurnFits c.args.qp.now (sides_of c.args.sides.now) (position_of c.args.it) c.args.direction.now.point.items c.args.direction.now.multipliers.items c.args.turn)
    (λ h. subst (λ (t : Turn). ¬ TurnFits c.args.qp.now (sides_of c.args.sides.now) (position_of c.args.it) c.args.direction.now.point.items c.args.direction.now.multipliers.items t) (sym c.in-Joins.is) (λ f. h f.0)) c.in_err-after-in-Joins.ensures.wide)

pub returns-in_err-first-in-Joins-clause-wide : goal.returns-in_err-first-in-Joins-clause-wide
returns-in_err-first-in-Joins-clause-wide c =
    err_wide c.from_residual-in_err-first-in-Joins.result _ _ c.from_residual-in_err-first-in-Joins.ensures.1
    (subst (λ (t : Turn). ¬ TurnFits c.args.qp.now (sides_of c.args.sides.now) (position_of c.args.it) c.args.direction.now.point.items c.args.direction.now.multipliers.items t) (sym c.in-Joins.is)
    (wide_tests c.args.qp.now (sides_of c.args.sides.now) (position_of c.args.it) c.args.direction.now.point.items c.args.direction.now.multipliers.items c.in-Joins.length (position_of c.in_ok-after-in-Joins.after) c.in_ok-after-in-Joins.ensures.value c.requires.position c.requires.direction c.requires.multipliers
    c.in_err-first-in-Joins.ensures.wide))

pub returns-in_err-together-in-Joins-clause-wide : goal.returns-in_err-together-in-Joins-clause-wide
returns-in_err-together-in-Joins-clause-wide c = err_memory c.from_residual-in_err-together-in-Joins.result _ _ c.from_residual-in_err-together-in-Joins.ensures.1

pub returns-in_err-continued-in-Joins-clause-wide : goal.returns-in_err-continued-in-Joins-clause-wide
returns-in_err-continued-in-Joins-clause-wide c = err_memory c.from_residual-in_err-continued-in-Joins.result _ _ c.from_residual-in_err-continued-in-Joins.ensures.1

pub returns-in_ok-continued-in-Joins-clause-leads : goal.returns-in_ok-continued-in-Joins-clause-leads
returns-in_ok-continued-in-Joins-clause-leads c =
    subst (λ (t : Turn). LeadsTo c.args.qp.now (sides_of c.args.sides.now) (position_of c.args.it) c.args.direction.now.point.items c.args.direction.now.multipliers.items t (step_of c.in_ok-continued-in-Joins.field-0)) (sym c.in-Joins.is)
    (join_leads c.args.qp.now (sides_of c.args.sides.now) (position_of c.args.it) c.args.direction.now.point.items c.args.direction.now.multipliers.items c.in-Joins.length (position_of c.in_ok-after-in-Joins.after) c.in_ok-after-in-Joins.ensures.value c.requires.position c.requires.direction c.requires.multipliers
    c.in_ok-first-in-Joins.first c.in_ok-first-in-Joins.ensures.value
    (position_of c.in_ok-together-in-Joins.together) c.in_ok-together-in-Joins.ensures (step_of c.in_ok-continued-in-Joins.field-0) c.in_ok-continued-in-Joins.ensures)

pub returns-in_ok-continued-in-Joins-clause-wide : goal.returns-in_ok-continued-in-Joins-clause-wide
returns-in_ok-continued-in-Joins-clause-wide c =
    subst (λ (t : Turn). TurnFits c.args.qp.now (sides_of c.args.sides.now) (position_of c.args.it) c.args.direction.now.point.items c.args.direction.now.multipliers.items t) (sym c.in-Joins.is)
    (join_fits c.args.qp.now (sides_of c.args.sides.now) (position_of c.args.it) c.args.direction.now.point.items c.args.direction.now.multipliers.items c.in-Joins.length (position_of c.in_ok-after-in-Joins.after) c.in_ok-after-in-Joins.ensures.value c.requires.position c.requires.direction c.requires.multipliers
    c.in_ok-after-in-Joins.ensures.wide c.in_ok-first-in-Joins.ensures.wide)
