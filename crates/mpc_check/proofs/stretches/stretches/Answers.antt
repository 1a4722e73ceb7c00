use Rattle.std.proofs.Common.{◌≡◌, ◌+◌, ◌-◌, ◌/◌, ◌∷◌, [], ◌++◌, sym, subst, arith, rules}
use Rattle.mpc_check.specs.Stretches.{AreNeighbours, IsStretchOf}
use Rattle.mpc_check.specs.declared.stretches.Stretch.{Stretch}
use Rattle.std.specs.Prelude.{All}
use Rattle.mpc_check.proofs.SideLemmas.{one_more_stretch, each_stretch, all_left, some_left}
use Rattle.mpc_check.proofs.stretches.stretches.Goals as goal

pub loop-k-preserved : goal.loop-k-preserved
loop-k-preserved c =
    let places = c.args.places in
    let from = c.loop-k.from in
    let parts = c.clamp-count.result - c.loop-k.k in
    let stretch : Stretch = record { from = from; to = from + (places - from) / parts } in
    let pushed : c.push.new.self.items ≡ c.loop-k.stretches.items ++ stretch ∷ [] = search rules in
    record {
      cut = subst (AreNeighbours 0 stretch.to) (sym pushed) (one_more_stretch 0 from c.loop-k.stretches.items stretch c.loop-k.invariant.cut (λ i. from) (omega arith));
      below = some_left from places parts c.loop-k.invariant.below;
      so_many = search rules;
      last = λ e. all_left from places parts c.loop-k.invariant.below (omega (arith, e));
    }

pub returns-clause-each : goal.returns-clause-each
returns-clause-each c =
    let whole : c.loop-k.from ≡ c.args.places = c.loop-k.invariant.last (omega (arith, c.loop-k-test.false, c.loop-k.auto.k-end)) in
    subst (λ n. All (IsStretchOf n) c.loop-k.stretches.items) whole (each_stretch 0 c.loop-k.from c.loop-k.stretches.items c.loop-k.invariant.cut)
