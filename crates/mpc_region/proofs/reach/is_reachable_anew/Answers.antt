use Rattle.mpc_region.proofs.Decisions.{reach_answer}
use Rattle.mpc_region.proofs.reach.is_reachable_anew.Goals as goal

pub returns-clause-answer : goal.returns-clause-answer
returns-clause-answer c = reach_answer c.region_theorems.ensures c.args.qp.now c.args.set c.requires c.has_point.result c.in-Ok.system c.in-Ok.ensures c.has_point.ensures.answer
