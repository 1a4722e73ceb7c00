use Rattle.std.proofs.Common.{◌<◌, subst, refl}
use Rattle.mpc_plant.proofs.RollLemmas.{counts_size, count_small, starts_more, starts_wide, starts_value, starts_fit}
use Rattle.mpc_plant.proofs.rolling.state_at_counts.Goals as goal

pub at-requires : goal.at-requires
at-requires c = subst (λ n. c.loop-i.i < n) (counts_size c.args.plant.now.grid c.args.counts.now c.requires) c.loop-i-test.true

pub value_at-requires : goal.value_at-requires
value_at-requires c = count_small c.args.plant.now.grid c.args.counts.now c.loop-i.i c.at.result.now c.args.plant.now.is_plant.grid_ok c.requires c.loop-i-test.true

pub returns-in-Err-clause-wide : goal.returns-in-Err-clause-wide
returns-in-Err-clause-wide c =
    (refl, starts_wide c.args.plant.now.grid c.args.counts.now c.loop-i.i c.loop-i.state c.at.result.now c.requires c.loop-i-test.true c.at.ensures c.loop-i.invariant c.in-Err.ensures.wide)

pub loop-i-preserved : goal.loop-i-preserved
loop-i-preserved c =
    starts_more c.args.plant.now.grid c.args.counts.now c.loop-i.i c.loop-i.state c.at.result.now c.requires c.loop-i-test.true c.at.ensures c.loop-i.invariant
    c.push.new.self c.in-Ok.value c.in_ok-push-in-Ok.ensures.ok c.in-Ok.ensures.value c.in-Ok.ensures.wide

pub returns-clause-value : goal.returns-clause-value
returns-clause-value c = starts_value c.args.plant.now.grid c.args.counts.now c.loop-i.i c.loop-i.state c.requires c.loop-i-test.false c.loop-i.invariant

pub returns-clause-wide : goal.returns-clause-wide
returns-clause-wide c = starts_fit c.args.plant.now.grid c.args.counts.now c.loop-i.i c.loop-i.state c.requires c.loop-i-test.false c.loop-i.invariant
