use Rattle.mpc_states.proofs.Solved.{robustly_solved_for, not_definite_robustly, too_wide_robustly, wide_row_robustly, replies_robustly}
use Rattle.mpc_states.proofs.inputs.robust_for.Goals as goal

pub returns-clause-text : goal.returns-clause-text
returns-clause-text c =
    robustly_solved_for _ c.args.plant.now c.in-Ok.noise c.in-Ok.ensures.value c.in-Ok-convex_program.program c.in-Ok-tighten.tight c.args.counts.now c.in_ok-text.text.items c.right_programs.ensures.robust
    c.in-Ok-convex_program.ensures.program c.in-Ok-tighten.ensures.tightened c.in-Ok-tighten.ensures.robust c.in_ok-text.ensures

pub returns-clause-replied : goal.returns-clause-replied
returns-clause-replied c =
    replies_robustly _ c.args.plant.now c.in-Ok.noise c.in-Ok.ensures.value c.in-Ok-convex_program.program c.in-Ok-tighten.tight c.in-Ok-convex_program.ensures.program c.in-Ok-tighten.ensures.tightened

pub returns-in-Err-NotDefinite-clause-cause : goal.returns-in-Err-NotDefinite-clause-cause
returns-in-Err-NotDefinite-clause-cause c =
    rw c.in-Err-NotDefinite.pivot-is (not_definite_robustly _ c.args.plant.now c.in-Ok.noise c.in-Ok.ensures.value c.in-Err-NotDefinite.pivot (rw c.in-Err-NotDefinite.field-0-is at c.in-Err-NotDefinite.ensures.cause))

pub returns-in-Err-TooWide-clause-cause : goal.returns-in-Err-TooWide-clause-cause
returns-in-Err-TooWide-clause-cause c =
    rw c.in-Err-TooWide.place-is (too_wide_robustly _ c.args.plant.now c.in-Ok.noise c.in-Ok.ensures.value c.in-Err-TooWide.place (rw c.in-Err-TooWide.field-0-is at c.in-Err-TooWide.ensures.cause))

pub returns-in-Err-Wide-clause-cause : goal.returns-in-Err-Wide-clause-cause
returns-in-Err-Wide-clause-cause c =
    rw c.in-Err-Wide.row-is
    (wide_row_robustly _ c.args.plant.now c.in-Ok.noise c.in-Ok.ensures.value c.in-Ok-convex_program.program c.in-Err-Wide.row c.in-Ok-convex_program.ensures.program (rw c.in-Err-Wide.field-0-is at c.in-Err-Wide.ensures.cause))
