use Rattle.mpc_region.proofs.RightVerdicts.{run_region, run_hollow, run_wide}
use Rattle.mpc_region.proofs.verdicts.by_run.Goals as goal

pub returns-in-Ok-true : goal.returns-in-Ok-true
returns-in-Ok-true c =
    run_region c.args.qp.now c.args.law c.requires.law c.requires.grows c.requires.reach_fits c.requires.rows_fit c.in-Ok-true.field-0 c.in-Ok-true.ensures.answer c.in-Ok-true.ensures.wide c.in-Ok-true.field-0-test

pub returns-in-Ok-false : goal.returns-in-Ok-false
returns-in-Ok-false c =
    run_hollow c.args.qp.now c.args.law c.requires.law c.requires.grows c.requires.reach_fits c.requires.rows_fit c.in-Ok-false.field-0 c.in-Ok-false.ensures.answer c.in-Ok-false.ensures.wide c.in-Ok-false.field-0-test

pub returns-in-Err-Wide : goal.returns-in-Err-Wide
returns-in-Err-Wide c =
    run_wide c.args.qp.now c.args.law c.requires.law c.requires.grows c.requires.reach_fits c.requires.rows_fit (rw c.in-Err-Wide.field-0-is at c.in-Err-Wide.ensures.wide)
