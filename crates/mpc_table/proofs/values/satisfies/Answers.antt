use Rattle.mpc_table.proofs.WalkLemmas.{satisfies_iff}
use Rattle.mpc_table.proofs.values.satisfies.Goals as goal

pub returns : goal.returns
returns c = satisfies_iff c.is_at_most.result c.weighted_sum.result c.args.row.now c.as_slice.result.now c.args.counts.now c.weighted_sum.ensures.fits c.requires.within c.is_at_most.ensures c.weighted_sum.ensures.value c.as_slice.ensures
