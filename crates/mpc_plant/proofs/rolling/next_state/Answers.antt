use Rattle.std.proofs.Common.{◌≡◌, ◌∙◌, ap, arith}
use Rattle.mpc_space.specs.Vector.{listed}
use Rattle.mpc_plant.specs.RollWidth.{next_entry, EntryFits}
use Rattle.mpc_plant.proofs.Carried.{below_next}
use Rattle.mpc_plant.proofs.RollLemmas.{listed_more, next_listed}
use Rattle.mpc_plant.proofs.rolling.next_state.Goals as goal

pub loop-i-preserved : goal.loop-i-preserved
loop-i-preserved c = record {
  entries = listed_more (next_entry c.args.plant.now c.args.state.now c.args.input.now) c.loop-i.i c.loop-i.entries c.push.new.self c.in-Ok.value c.loop-i.invariant.entries c.in_ok-push-in-Ok.ensures.ok c.in-Ok.ensures.value;
  fits = below_next (EntryFits c.args.plant.now c.args.state.now c.args.input.now) c.loop-i.i c.loop-i.invariant.fits c.in-Ok.ensures.wide;
}

pub returns-clause-value : goal.returns-clause-value
returns-clause-value c =
    let all : c.loop-i.i ≡ c.args.plant.now.n = omega arith in
    c.loop-i.invariant.entries ∙ ap (λ n. listed n (next_entry c.args.plant.now c.args.state.now c.args.input.now)) all ∙ next_listed c.args.plant.now c.args.state.now c.args.input.now
