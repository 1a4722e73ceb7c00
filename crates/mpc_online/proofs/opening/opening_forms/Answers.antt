use Rattle.std.proofs.Common.{◌∙◌, refl, sym, arith}
use Rattle.mpc_online.proofs.Openings.{counts_to, first_is, next_of, column_of, one_count_each, stage_more, forms_found}
use Rattle.mpc_online.proofs.opening.opening_forms.Goals as goal

pub next_stage-requires-clause-column : goal.next_stage-requires-clause-column
next_stage-requires-clause-column c = omega (arith, c.loop-column-test.true, c.rows-column-end.ensures.value, c.requires.kept.front)

pub next_stage-requires-clause-rows : goal.next_stage-requires-clause-rows
next_stage-requires-clause-rows c = c.loop-column.invariant.stage.shape.rows_are

pub changes_fit-requires-clause-rows : goal.changes_fit-requires-clause-rows
changes_fit-requires-clause-rows c =
    (next_of c.args.qp.now c.args.kept.now c.requires.kept c.loop-column.column c.loop-column.stage _ c.in-Some.next c.in-Some.is c.in_ok-next.ensures.stage c.loop-column.invariant.stage).shape.rows_are ∙ sym c.loop-column.invariant.stage.shape.rows_are

pub changes_fit-requires-clause-old : goal.changes_fit-requires-clause-old
changes_fit-requires-clause-old c = c.loop-column.invariant.stage.shape.columns_are ∙ one_count_each c.args.qp.now c.args.kept.now c.requires.kept c.args.most.now c.requires.most

pub changes_fit-requires-clause-new : goal.changes_fit-requires-clause-new
changes_fit-requires-clause-new c =
    (next_of c.args.qp.now c.args.kept.now c.requires.kept c.loop-column.column c.loop-column.stage _ c.in-Some.next c.in-Some.is c.in_ok-next.ensures.stage c.loop-column.invariant.stage).shape.columns_are
    ∙ one_count_each c.args.qp.now c.args.kept.now c.requires.kept c.args.most.now c.requires.most

pub loop-column-init : goal.loop-column-init
loop-column-init c = first_is c.args.qp.now c.args.kept.now c.requires.kept c.in_ok-stage.stage c.in_ok-stage.ensures

pub loop-column-preserved : goal.loop-column-preserved
loop-column-preserved c =
    stage_more c.args.qp.now c.args.kept.now c.requires.kept c.loop-column.column c.loop-column.stage c.in-Some.next
    (next_of c.args.qp.now c.args.kept.now c.requires.kept c.loop-column.column c.loop-column.stage _ c.in-Some.next c.in-Some.is c.in_ok-next.ensures.stage c.loop-column.invariant.stage)
    (column_of c.args.qp.now c.args.kept.now c.requires.kept c.loop-column.column _ c.in-Some.next c.in-Some.is c.in_ok-next.ensures.column)
    (λ x a i hi. c.if-not-changes_fit.ensures refl x (counts_to c.args.qp.now c.args.most.now x c.requires.most a) i hi)
    c.loop-column.invariant

pub returns : goal.returns
returns c =
    forms_found c.args.qp.now c.args.kept.now c.requires.kept c.combined_theorems.ensures c.loop-column.column c.loop-column.stage
    (omega (arith, c.loop-column-test.false, c.loop-column.auto.column-end, c.rows-column-end.ensures.value, c.requires.kept.front)) c.loop-column.invariant
