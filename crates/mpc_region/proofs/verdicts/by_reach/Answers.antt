use Rattle.mpc_region.proofs.RightVerdicts.{reached, not_reached, reach_wide}
use Rattle.mpc_region.proofs.verdicts.by_reach.Goals as goal

pub is_reachable-requires-clause-set_of_rows : goal.is_reachable-requires-clause-set_of_rows
is_reachable-requires-clause-set_of_rows c = c.requires.law.is_law.shape.set_of_rows

pub by_law-requires-clause-law : goal.by_law-requires-clause-law
by_law-requires-clause-law c = c.requires.law.is_law

pub by_law-requires-clause-grows : goal.by_law-requires-clause-grows
by_law-requires-clause-grows c = reached c.args.qp.now c.args.law.set c.requires.law.independent c.requires.law.fits c.in-Ok-true.field-0 c.in-Ok-true.ensures.answer c.in-Ok-true.field-0-test

pub by_law-requires-clause-reach_fits : goal.by_law-requires-clause-reach_fits
by_law-requires-clause-reach_fits c = record { law = c.requires.law.fits; reach = c.in-Ok-true.ensures.wide }

pub by_law-requires-clause-kept : goal.by_law-requires-clause-kept
by_law-requires-clause-kept c = c.is_reachable.ensures.kept

pub returns-in-Ok-true-clause-kept : goal.returns-in-Ok-true-clause-kept
returns-in-Ok-true-clause-kept c = c.by_law.ensures.kept

pub returns-in-Ok-true-clause-right : goal.returns-in-Ok-true-clause-right
returns-in-Ok-true-clause-right c = c.by_law.ensures.right

pub returns-in-Ok-false-clause-kept : goal.returns-in-Ok-false-clause-kept
returns-in-Ok-false-clause-kept c = c.is_reachable.ensures.kept

pub returns-in-Ok-false-clause-right : goal.returns-in-Ok-false-clause-right
returns-in-Ok-false-clause-right c = not_reached c.args.qp.now c.args.law.set c.requires.law.independent c.requires.law.fits c.in-Ok-false.field-0 c.in-Ok-false.ensures.answer c.in-Ok-false.ensures.wide c.in-Ok-false.field-0-test

pub returns-in-Err-Wide-clause-kept : goal.returns-in-Err-Wide-clause-kept
returns-in-Err-Wide-clause-kept c = c.is_reachable.ensures.kept

pub returns-in-Err-Wide-clause-right : goal.returns-in-Err-Wide-clause-right
returns-in-Err-Wide-clause-right c = reach_wide c.args.qp.now c.args.law.set c.requires.law.independent c.requires.law.fits (rw c.in-Err-Wide.field-0-is at c.in-Err-Wide.ensures.wide)

pub returns-clause-kept : goal.returns-clause-kept
returns-clause-kept c = c.is_reachable.ensures.kept

pub returns-clause-right : goal.returns-clause-right
returns-clause-right c = tt
