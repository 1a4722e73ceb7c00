use Rattle.std.proofs.Common.{◌≡◌, ◌+◌, ◌-◌, ◌<◌, ◌≤◌, length, get_or, ap, ◌∙◌, subst, arith}
use Rattle.mpc_space.specs.Matrix.{height}
use Rattle.mpc_space.specs.Vector.{column}
use Rattle.mpc_rows.specs.ActiveSets.{rows_of}
use Rattle.mpc_check.proofs.SumLemmas.{weighed_more, weighed_wide, weighed_value, weighed_fits}
use Rattle.mpc_check.proofs.gradients.add_mults.Goals as goal

pub get-requires-clause-row : goal.get-requires-clause-row
get-requires-clause-row c =
    let within : c.loop-place.place < length c.args.law.now.set = subst (λ n. c.loop-place.place < n) c.size-place-end.ensures.value c.loop-place-test.true in
    let here : c.loop-place.place + 1 - 1 ≡ c.loop-place.place = omega arith in
    let member : c.member-row.result ≡ get_or c.args.law.now.set c.loop-place.place 0 = c.member-row.ensures.value ∙ ap (λ j. get_or c.args.law.now.set j 0) here in
    let bounds = c.law_theorems.ensures.member_bounds (height c.args.qp.now.g) c.args.law.now.set c.loop-place.place c.requires.shape.set_of_rows.rises within in
    let low = bounds.0 in
    let high = bounds.1 in
    omega (arith, member, low, high)

pub loop-place-init : goal.loop-place-init
loop-place-init c = c.sum_theorems.ensures.none c.args.start.now (column (rows_of c.args.qp.now.g.rows c.args.law.now.set) c.args.line) (column c.args.law.now.mults.rows c.args.at_column)

pub loop-place-preserved : goal.loop-place-preserved
loop-place-preserved c =
    let within : c.loop-place.place < length c.args.law.now.set = subst (λ n. c.loop-place.place < n) c.size-place-end.ensures.value c.loop-place-test.true in
    let here : c.loop-place.place + 1 - 1 ≡ c.loop-place.place = omega arith in
    weighed_more c.sum_theorems.ensures c.args.qp.now c.args.law.now c.args.line c.args.at_column c.args.start.now c.requires.shape c.loop-place.place c.loop-place.sum c.loop-place.invariant _ _ within c.member-row.result (c.member-row.ensures.value ∙ ap (λ j. get_or c.args.law.now.set j 0) here) c.get.ensures c.get-in-loop-place.ensures
    _ c.in-Ok.ensures.value c.in-Ok.ensures.wide

pub returns-in-Err-clause-wide : goal.returns-in-Err-clause-wide
returns-in-Err-clause-wide c =
    let within : c.loop-place.place < length c.args.law.now.set = subst (λ n. c.loop-place.place < n) c.size-place-end.ensures.value c.loop-place-test.true in
    let here : c.loop-place.place + 1 - 1 ≡ c.loop-place.place = omega arith in
    weighed_wide c.sum_theorems.ensures c.args.qp.now c.args.law.now c.args.line c.args.at_column c.args.start.now c.requires.shape c.loop-place.place c.loop-place.sum c.loop-place.invariant _ _ within c.member-row.result (c.member-row.ensures.value ∙ ap (λ j. get_or c.args.law.now.set j 0) here) c.get.ensures c.get-in-loop-place.ensures
    c.in-Err.ensures.wide

pub returns-clause-value : goal.returns-clause-value
returns-clause-value c =
    weighed_value c.sum_theorems.ensures c.args.qp.now c.args.law.now c.args.line c.args.at_column c.args.start.now c.requires.shape c.loop-place.place c.loop-place.sum c.loop-place.invariant (subst (λ n. n ≤ c.loop-place.place) c.size-place-end.ensures.value c.loop-place-test.false)

pub returns-clause-wide : goal.returns-clause-wide
returns-clause-wide c =
    weighed_fits c.sum_theorems.ensures c.args.qp.now c.args.law.now c.args.line c.args.at_column c.args.start.now c.requires.shape c.loop-place.place c.loop-place.sum c.loop-place.invariant (subst (λ n. n ≤ c.loop-place.place) c.size-place-end.ensures.value c.loop-place-test.false)
