use Rattle.std.proofs.Common.{Ok, sym, subst, arith}
use Rattle.mpc_check.specs.Findings.{IsSearched}
use Rattle.mpc_check.specs.LeafConditions.{NodeAtMet, NodeAtFinds}
use Rattle.mpc_controller.specs.Ways.{IsWay}
use Rattle.mpc_check.proofs.StretchLemmas.{none_yet, one_more, stretch_error}
use Rattle.mpc_check.proofs.trees.search_stretch.Goals as goal

pub loop-place-init : goal.loop-place-init
loop-place-init c = record { way = c.in_ok-way.ensures; met = none_yet (NodeAtMet c.args.qp.now c.args.laws.now c.args.tree.now) (NodeAtFinds c.args.qp.now c.args.laws.now c.args.tree.now) c.args.stretch.from }

pub search_place-requires-clause-way : goal.search_place-requires-clause-way
search_place-requires-clause-way c = subst (IsWay c.args.tree.now c.loop-place.place) (sym c.as_slice.ensures.value) (c.loop-place.invariant.way (omega (arith, c.requires.stretch.inside, c.loop-place-test.true)))

pub returns-in-Err : goal.returns-in-Err
returns-in-Err c =
    stretch_error (NodeAtMet c.args.qp.now c.args.laws.now c.args.tree.now) (NodeAtFinds c.args.qp.now c.args.laws.now c.args.tree.now) c.args.stretch.from c.args.stretch.to c.loop-place.place (omega (arith, c.loop-place.auto.place)) c.loop-place-test.true c.loop-place.invariant.met c.in-Err.error c.in-Err.ensures

pub loop-place-preserved : goal.loop-place-preserved
loop-place-preserved c = record {
  way = c.in_ok-go_on.ensures;
  met = one_more (NodeAtMet c.args.qp.now c.args.laws.now c.args.tree.now) (NodeAtFinds c.args.qp.now c.args.laws.now c.args.tree.now) c.args.stretch.from c.loop-place.place c.loop-place.invariant.met
      (subst (λ found. IsSearched (NodeAtMet c.args.qp.now c.args.laws.now c.args.tree.now c.loop-place.place) (NodeAtFinds c.args.qp.now c.args.laws.now c.args.tree.now c.loop-place.place) (Ok found)) c.in-Ok-None.field-0-is c.in-Ok-None.ensures);
}
