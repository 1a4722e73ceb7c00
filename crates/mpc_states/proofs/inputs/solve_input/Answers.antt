use Rattle.std.proofs.lemmas.Result.{IfOk-weaker, IfErr-weaker}
use Rattle.mpc_states.proofs.Solved.{solved, replied, solve_cause, on_ok_from}
use Rattle.mpc_states.proofs.inputs.solve_input.Goals as goal

pub returns-in-Ok-clause-text : goal.returns-in-Ok-clause-text
returns-in-Ok-clause-text c =
    IfOk-weaker c.solve_for.result _ _ (λ text h. solved c.args.input.now c.cut-sections.result.head.now c.cut-sections.result.counts.now c.in-Ok.plant c.cut-sections.ensures.head c.cut-sections.ensures.counts c.in-Ok.ensures.ok text.items h) c.solve_for.ensures.text

pub returns-in-Ok-clause-replied : goal.returns-in-Ok-clause-replied
returns-in-Ok-clause-replied c =
    on_ok_from c.solve_for.result _ _ (λ text h. replied c.args.input.now c.cut-sections.result.head.now c.cut-sections.result.counts.now c.in-Ok.plant c.cut-sections.ensures.head c.cut-sections.ensures.counts c.in-Ok.ensures.ok text.items h) c.solve_for.ensures.text

pub returns-in-Ok-clause-cause : goal.returns-in-Ok-clause-cause
returns-in-Ok-clause-cause c =
    IfErr-weaker c.solve_for.result _ _ (λ e h. solve_cause c.args.input.now c.cut-sections.result.head.now c.cut-sections.result.counts.now c.in-Ok.plant c.cut-sections.ensures.head c.cut-sections.ensures.counts c.in-Ok.ensures.ok e h) c.solve_for.ensures.cause
