use Rattle.std.proofs.Common.{refl}
use Rattle.mpc_region.proofs.RightVerdicts.{right_region, right_hollow}
use Rattle.mpc_region.proofs.verdicts.by_region.Goals as goal

pub returns-in-Some-true-clause-right : goal.returns-in-Some-true-clause-right
returns-in-Some-true-clause-right c =
    right_region c.region_theorems.ensures c.law_theorems.ensures c.args.qp.now c.args.law.set c.args.law refl c.requires.law c.requires.grows c.requires.reach_fits c.args.rows.now c.requires.rows c.requires.rows_fit
    c.in_ok-rows_meet_box.field-0 c.in-Some-true.field-0 c.in-Some-true.is c.in_ok-rows_meet_box.ensures.answer c.in_ok-rows_meet_box.ensures.fits c.in-Some-true.field-0-test

pub returns-in-Some-false-clause-right : goal.returns-in-Some-false-clause-right
returns-in-Some-false-clause-right c =
    right_hollow c.region_theorems.ensures c.law_theorems.ensures c.args.qp.now c.args.law.set c.args.law refl c.requires.law c.requires.grows c.requires.reach_fits c.args.rows.now c.requires.rows c.requires.rows_fit
    c.in_ok-rows_meet_box.field-0 c.in-Some-false.field-0 c.in-Some-false.is c.in_ok-rows_meet_box.ensures.answer c.in_ok-rows_meet_box.ensures.fits c.in-Some-false.field-0-test
