use Rattle.mpc_region.proofs.RightVerdicts.{reached, not_reached, reach_wide}
use Rattle.mpc_region.proofs.verdicts.by_tables.Goals as goal

pub by_whole_table-requires-clause-reached : goal.by_whole_table-requires-clause-reached
by_whole_table-requires-clause-reached c = record {
  law = c.requires.law.is_law;
  grows = reached c.args.qp.now c.args.set c.requires.law.independent c.requires.law.fits c.in-Ok-true.field-0 c.in-Ok-true.ensures.answer c.in-Ok-true.field-0-test;
  fits = record { law = c.requires.law.fits; reach = c.in-Ok-true.ensures.wide };
}

pub returns-in-Ok-false-clause-right : goal.returns-in-Ok-false-clause-right
returns-in-Ok-false-clause-right c = not_reached c.args.qp.now c.args.set c.requires.law.independent c.requires.law.fits c.in-Ok-false.field-0 c.in-Ok-false.ensures.answer c.in-Ok-false.ensures.wide c.in-Ok-false.field-0-test

pub returns-in-Err-Wide-clause-right : goal.returns-in-Err-Wide-clause-right
returns-in-Err-Wide-clause-right c = reach_wide c.args.qp.now c.args.set c.requires.law.independent c.requires.law.fits (rw c.in-Err-Wide.field-0-is at c.in-Err-Wide.ensures.wide)
