use Rattle.mpc_synthesis.specs.Refusals.{controller}
use Rattle.mpc_trace.proofs.DrillLemmas.{counts}
use Rattle.mpc_trace.proofs.drills.drill_of.Goals as goal

pub returns-in-Err-clause-refused : goal.returns-in-Err-clause-refused
returns-in-Err-clause-refused g c = c.in-Err.ensures.refused controller

pub returns-in-Ok-counted-clause-counts : goal.returns-in-Ok-counted-clause-counts
returns-in-Ok-counted-clause-counts g c =
    counts c.one_program.ensures c.finished_histories.ensures 4 c.args.plant c.in-Ok.registry c.history.result.now c.in-Ok-controller_of.parts c.in-Ok-counted.drilled c.claim_count-candidates.result c.in-Ok.ensures.decided
    c.history.ensures.value c.claim_count-candidates.ensures c.in-Ok-controller_of.ensures.controller c.in-Ok-counted.ensures.counts c.in-Ok-counted.ensures.regions c.in-Ok-counted.ensures.tree
