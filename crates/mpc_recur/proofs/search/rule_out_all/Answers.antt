use Rattle.std.proofs.Common.{◌+◌, ◌<◌, length, sym, ap, subst, arith}
use Rattle.mpc_rows.specs.declared.trees.Node.{Node}
use Rattle.std.proofs.Common.{List}
use Rattle.mpc_recur.specs.Targets.{NodeAtMet, NodeAtFinds}
use Rattle.mpc_controller.specs.Ways.{IsWay, root}
use Rattle.mpc_recur.specs.Empties.{EmptiesBefore}
use Rattle.mpc_recur.proofs.FindingLemmas.{each_more}
use Rattle.mpc_recur.proofs.TargetLemmas.{first_stop}
use Rattle.mpc_recur.proofs.search.rule_out_all.Goals as goal

pub loop-place-init : goal.loop-place-init
loop-place-init c = record { way = λ h. subst (IsWay c.args.controller.now.tree 0) (sym c.new-way.ensures.items) root; met = λ k h. absurd (omega arith) }

pub rule_out_place-requires-clause-way : goal.rule_out_place-requires-clause-way
rule_out_place-requires-clause-way c =
    subst (IsWay c.args.controller.now.tree c.loop-place.place) (sym c.as_slice.ensures.value) (c.loop-place.invariant.way (omega (arith, c.loop-place-test.true, c.len-place-end.ensures, ap (λ (t : List Node). length t) c.tree-tree.ensures.value)))

pub rule_out_place-requires-clause-inside : goal.rule_out_place-requires-clause-inside
rule_out_place-requires-clause-inside c = omega (arith, c.loop-place-test.true, c.len-place-end.ensures, ap (λ (t : List Node). length t) c.tree-tree.ensures.value)

pub rule_out_place-requires-clause-end : goal.rule_out_place-requires-clause-end
rule_out_place-requires-clause-end c = omega (arith, c.empties_end-end.ensures.inside, ap (λ (t : List Node). length t) c.tree-tree.ensures.value)

pub rule_out_place-requires-clause-empties : goal.rule_out_place-requires-clause-empties
rule_out_place-requires-clause-empties c = subst (λ (t : List Node). EmptiesBefore t c.empties_end-end.result) c.tree-tree.ensures.value c.empties_end-end.ensures.behind

pub loop-place-preserved : goal.loop-place-preserved
loop-place-preserved c = record {
  way = λ h. subst (λ (t : List Node). IsWay t (c.loop-place.place + 1) c.go_on.new.way.items) c.tree-tree.ensures.value (c.in_ok-go_on.ensures (subst (λ (t : List Node). c.loop-place.place + 1 < length t) (sym c.tree-tree.ensures.value) h));
  met = each_more (NodeAtMet c.args.controller.now) c.loop-place.place c.loop-place.invariant.met c.in-Ok.ensures;
}

pub returns-in-Err : goal.returns-in-Err
returns-in-Err c =
    first_stop (NodeAtMet c.args.controller.now) (NodeAtFinds c.args.controller.now) (length c.args.controller.now.tree) c.loop-place.place
    (omega (arith, c.loop-place-test.true, c.len-place-end.ensures, ap (λ (t : List Node). length t) c.tree-tree.ensures.value)) c.loop-place.invariant.met c.in-Err.stop c.in-Err.ensures

pub returns : goal.returns
returns c = λ k h. c.loop-place.invariant.met k (omega (arith, h, c.loop-place-test.false, c.len-place-end.ensures, ap (λ (t : List Node). length t) c.tree-tree.ensures.value))
