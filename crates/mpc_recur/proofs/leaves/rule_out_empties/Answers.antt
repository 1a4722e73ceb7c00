use Rattle.std.proofs.Common.{◌≡◌, ◌+◌, ◌<◌, List, length, map, sym, ◌∙◌, subst, arith, ap, All}
use Rattle.mpc_exact.specs.Rational.{ℚ}
use Rattle.mpc_rows.specs.declared.trees.Node.{Node}
use Rattle.mpc_recur.specs.Met.{AreMet}
use Rattle.mpc_recur.specs.Forms.{substituted, SubstitutedFits}
use Rattle.mpc_recur.specs.Findings.{IsRuledOut}
use Rattle.mpc_recur.specs.Targets.{with_rows, EmptyMet, EmptyFinds}
use Rattle.mpc_controller.specs.Paths.{PathTo}
use Rattle.mpc_controller.specs.Ways.{IsWay, root}
use Rattle.mpc_recur.proofs.FindingLemmas.{each_more}
use Rattle.mpc_recur.proofs.TargetLemmas.{first_stop}
use Rattle.mpc_recur.proofs.LeafLemmas.{all_empties, met_there}
use Rattle.mpc_recur.proofs.leaves.rule_out_empties.Goals as goal

pub loop-place-init : goal.loop-place-init
loop-place-init c = record {
  way = λ h. subst (IsWay c.args.controller.now.tree 0) (sym c.new-way.ensures.items) root;
  forms = λ _. c.args.met.forms.items;
  kept = c.requires.met;
  met = λ law path base ef k h. absurd (omega arith);
}

pub rule_out_node-requires-clause-inside : goal.rule_out_node-requires-clause-inside
rule_out_node-requires-clause-inside c = omega (arith, c.loop-place-test.true, c.requires.end)

pub rule_out_node-requires-clause-way : goal.rule_out_node-requires-clause-way
rule_out_node-requires-clause-way c = subst (IsWay c.args.controller.now.tree c.loop-place.place) (sym c.as_slice.ensures.value) (c.loop-place.invariant.way (omega (arith, c.loop-place-test.true, c.requires.end)))

pub rule_out_node-requires-clause-sizes : goal.rule_out_node-requires-clause-sizes
rule_out_node-requires-clause-sizes c = ap length c.loop-place.invariant.forms ∙ c.requires.sizes

pub rule_out_node-requires-clause-affine : goal.rule_out_node-requires-clause-affine
rule_out_node-requires-clause-affine c = subst (λ (forms : List (List ℚ)). All (λ form. length form ≡ length forms + 1) forms) (sym c.loop-place.invariant.forms) c.requires.affine

pub rule_out_node-requires-clause-met : goal.rule_out_node-requires-clause-met
rule_out_node-requires-clause-met c = subst (λ (forms : List (List ℚ)). AreMet c.args.controller.now.tree forms c.loop-place.met.turns.items c.loop-place.met.rows) (sym c.loop-place.invariant.forms) c.loop-place.invariant.kept

pub loop-place-preserved : goal.loop-place-preserved
loop-place-preserved c = record {
  way = λ h. subst (λ (tree : List Node). IsWay tree (c.loop-place.place + 1) c.go_on.new.way.items) c.tree-in-loop-place.ensures.value (c.in_ok-go_on.ensures (subst (λ (tree : List Node). c.loop-place.place + 1 < length tree) (sym c.tree-in-loop-place.ensures.value) h));
  forms = c.in-Ok.ensures.forms ∙ c.loop-place.invariant.forms;
  kept = subst (λ (forms : List (List ℚ)). AreMet c.args.controller.now.tree forms c.rule_out_node.new.met.turns.items c.rule_out_node.new.met.rows) c.loop-place.invariant.forms c.in-Ok.ensures.met;
  met = λ law path base ef.
      each_more (EmptyMet c.args.controller.now.plant c.args.controller.now.tree law path) c.loop-place.place (c.loop-place.invariant.met law path base ef)
      (c.in-Ok.ensures.found law path base (c.loop-place.invariant.forms ∙ ef));
}

pub returns-in-Err : goal.returns-in-Err
returns-in-Err c = λ law path base ef.
    first_stop (EmptyMet c.args.controller.now.plant c.args.controller.now.tree law path) (EmptyFinds c.args.controller.now.plant c.args.controller.now.tree law path c.args.leaf) (length c.args.controller.now.tree) c.loop-place.place
    (omega (arith, c.loop-place-test.true, c.requires.end)) (c.loop-place.invariant.met law path base ef) c.in-Err.stop
    (c.in-Err.ensures.found law path base (c.loop-place.invariant.forms ∙ ef))

pub returns : goal.returns
returns c = λ law path base ef.
    all_empties c.args.controller.now.plant c.args.controller.now.tree law path c.args.end c.requires.empties (λ k h. c.loop-place.invariant.met law path base ef k (omega (arith, h, c.loop-place-test.false)))

pub returns-then-branch : goal.returns-then-branch
returns-then-branch c = λ law path base ef k h other cert leads is.
    let out = c.in_ok-is_empty.ensures c.if-branch.true k other (subst (λ (tree : List Node). PathTo tree k other) (sym c.tree.ensures.value) leads) in
    met_there c.args.controller.now.plant law path c.args.leaf c.args.base.now base (length c.args.met.forms.items) c.args.met.forms.items c.requires.sizes ef other IsRuledOut
    (subst (λ (forms : List (List ℚ)). IsRuledOut (All (SubstitutedFits (length forms) forms) other) (with_rows c.args.base.now (map (substituted (length forms) forms) other))) c.deref.ensures.value out)
