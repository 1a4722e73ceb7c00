use Rattle.mpc_trace.proofs.DrillLemmas.{drilled_of, refused_of}
use Rattle.mpc_trace.proofs.drills.drill.Goals as goal

pub returns-in-Ok-clause-drilled : goal.returns-in-Ok-clause-drilled
returns-in-Ok-clause-drilled g c = drilled_of c.args.number c.in-Ok.plant c.drill_of.result c.in-Ok.ensures c.drill_of.ensures.counts

pub returns-in-Ok-clause-refused : goal.returns-in-Ok-clause-refused
returns-in-Ok-clause-refused g c = refused_of c.args.number c.in-Ok.plant c.drill_of.result c.in-Ok.ensures c.drill_of.ensures.refused
