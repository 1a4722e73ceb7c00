use Rattle.std.proofs.Common.{sym, ◌∙◌}
use Rattle.mpc_region.proofs.BoxRuns.{width_is, box_answer, box_fits}
use Rattle.mpc_region.proofs.region.meets_box.Goals as goal

pub meets-requires-clause-width : goal.meets-requires-clause-width
meets-requires-clause-width c = c.requires.width ∙ sym (width_is c.args._qp.now c.args.kept.now.states c.in-Some.run' c.in-Some.is c.requires.kept.states)

pub returns-in_ok-open-in-Some-clause-answer : goal.returns-in_ok-open-in-Some-clause-answer
returns-in_ok-open-in-Some-clause-answer c = box_answer c.args._qp.now c.args.kept.now.states c.in-Some.run' c.in-Some.is c.requires.kept.states c.args.rows.now.rows c.meets.result c.meets.ensures.answer

pub returns-in_ok-open-in-Some-clause-fits : goal.returns-in_ok-open-in-Some-clause-fits
returns-in_ok-open-in-Some-clause-fits c = box_fits c.args._qp.now c.args.kept.now.states c.in-Some.run' c.in-Some.is c.requires.kept.states c.args.rows.now.rows c.meets.result c.meets.ensures.fits
