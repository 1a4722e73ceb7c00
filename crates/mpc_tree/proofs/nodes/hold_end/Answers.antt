use Rattle.std.proofs.Common.{◌≡◌, ◌∙◌, IfOk, MatchResult, ap, subst}
use Rattle.mpc_rows.specs.RunWidth.{RunFits}
use Rattle.mpc_simplex.specs.Answer.{IfWide}
use Rattle.mpc_systems.specs.Systems.{hold_system}
use Rattle.mpc_tree.specs.Ends.{IsEndOf}
use Rattle.mpc_tree.proofs.CellRuns.{row_size, holds_from}
use Rattle.mpc_tree.proofs.nodes.hold_end.Goals as goal

pub broken_end-requires-clause-width : goal.broken_end-requires-clause-width
broken_end-requires-clause-width c = row_size c.args.qp.now c.args.cell.now.rows.items c.args.cell.now.run c.requires.run c.in-Some.run' c.in-Some.is c.args.row.now c.requires.plain

pub returns-in-Ok-Some-clause-end : goal.returns-in-Ok-Some-clause-end
returns-in-Ok-Some-clause-end c = subst (λ s. IsEndOf s c.in-Ok-Some.end) (holds_from c.args.qp.now c.args.cell.now.rows.items c.args.cell.now.run c.requires.run c.in-Some.run' c.in-Some.is c.args.row.now) (rw c.in-Ok-Some.field-0-is at c.in-Ok-Some.ensures.end)

pub returns-in-Ok-Some-clause-wide : goal.returns-in-Ok-Some-clause-wide
returns-in-Ok-Some-clause-wide c = subst RunFits (holds_from c.args.qp.now c.args.cell.now.rows.items c.args.cell.now.run c.requires.run c.in-Some.run' c.in-Some.is c.args.row.now) (rw c.in-Ok-Some.field-0-is at c.in-Ok-Some.ensures.fits)

pub returns-clause-end : goal.returns-clause-end
returns-clause-end c =
    let e : c.in-Ok.system ≡ hold_system c.args.qp.now c.args.cell.now.rows.items c.args.row.now = c.in-Ok.ensures ∙ ap (λ cell. hold_system c.args.qp.now cell c.args.row.now) c.deref.ensures.value in
    subst (λ s. IfOk c.plain_end.result (IsEndOf s)) e c.plain_end.ensures.end

pub returns-clause-wide : goal.returns-clause-wide
returns-clause-wide c =
    let e : c.in-Ok.system ≡ hold_system c.args.qp.now c.args.cell.now.rows.items c.args.row.now = c.in-Ok.ensures ∙ ap (λ cell. hold_system c.args.qp.now cell c.args.row.now) c.deref.ensures.value in
    subst (λ s. MatchResult c.plain_end.result (λ _. RunFits s) (λ e. IfWide e (¬ RunFits s))) e c.plain_end.ensures.wide
