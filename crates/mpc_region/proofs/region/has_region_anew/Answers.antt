use Rattle.mpc_region.proofs.Decisions.{region_answer, region_wide}
use Rattle.mpc_region.proofs.region.has_region_anew.Goals as goal

pub returns-clause-answer : goal.returns-clause-answer
returns-clause-answer c = region_answer c.region_theorems.ensures c.law_theorems.ensures c.args.qp.now c.args.law.now c.requires.law c.args.rows.now c.requires.rows c.in-Ok.system c.in-Ok.ensures c.has_point.result c.has_point.ensures.answer

pub returns-clause-wide : goal.returns-clause-wide
returns-clause-wide c = region_wide c.region_theorems.ensures c.law_theorems.ensures c.args.qp.now c.args.law.now c.requires.law c.args.rows.now c.requires.rows c.in-Ok.system c.in-Ok.ensures c.has_point.result c.has_point.ensures.wide
