use Rattle.mpc_condense.proofs.Condensing.{condensed}
use Rattle.mpc_condense.proofs.programs.condense.Goals as goal

pub returns-clause-condensed : goal.returns-clause-condensed
returns-clause-condensed c = condensed c.args.plant.now _ c.in_ok-counts.ensures c.in_ok-h.ensures.sums c.in_ok-g.ensures.done
