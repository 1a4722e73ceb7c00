use Rattle.std.proofs.Common.{◌+◌, length, map, sym, subst, List, All}
use Rattle.std.specs.Prelude.{OnOk}
use Rattle.std.specs.Result.{MatchResult}
use Rattle.mpc_rows.specs.declared.trees.Node.{Node}
use Rattle.mpc_recur.specs.declared.answers.Target.TheVariants.{NoMove}
use Rattle.mpc_recur.specs.Forms.{substituted, SubstitutedFits}
use Rattle.mpc_recur.specs.Met.{AreMet}
use Rattle.mpc_recur.specs.Findings.{IsRuledOut, TargetFinds, IsStop}
use Rattle.mpc_recur.specs.Targets.{with_rows, target_of}
use Rattle.mpc_controller.specs.Ways.{IsTurn, way_rows}
use Rattle.mpc_recur.proofs.LeafLemmas.{empty_found, node_there}
use Rattle.mpc_recur.proofs.leaves.rule_out_node.Goals as goal

pub rule_out_leaf-requires-clause-way : goal.rule_out_leaf-requires-clause-way
rule_out_leaf-requires-clause-way c = subst (λ (t : List Node). All (IsTurn t) c.args.way.now) (sym c.tree-tree.ensures.value) (c.way_theorems.ensures.turns c.args.controller.now.tree c.args.place c.args.way.now c.requires.way)

pub rule_out_leaf-requires-clause-met : goal.rule_out_leaf-requires-clause-met
rule_out_leaf-requires-clause-met c = subst (λ (t : List Node). AreMet t c.args.met.now.forms.items c.args.met.now.turns.items c.args.met.now.rows) (sym c.tree-tree.ensures.value) c.requires.met

pub returns-clause-met : goal.returns-clause-met
returns-clause-met c = subst (λ (t : List Node). OnOk c.rule_out_leaf.result (AreMet t c.args.met.now.forms.items c.rule_out_leaf.new.met.turns.items c.rule_out_leaf.new.met.rows)) c.tree-tree.ensures.value c.rule_out_leaf.ensures.met

pub returns-clause-found : goal.returns-clause-found
returns-clause-found c = λ law path base ef.
    let tree = c.args.controller.now.tree in
    let forms = c.args.met.now.forms.items in
    let n = length forms in
    let there = node_there c.tree-tree.result.now tree c.args.place c.at.result.now c.in-NoMove.cert c.tree-tree.ensures.value c.at.ensures c.in-NoMove.is in
    empty_found c.args.controller.now.plant law path c.args.leaf c.args.base.now base c.one_path.ensures tree c.args.place (way_rows tree c.args.way.now) c.in-NoMove.cert (c.way_theorems.ensures.path tree c.args.place c.args.way.now c.requires.way) there n forms c.requires.sizes ef
    c.rule_out_leaf.result
    (subst (λ (t : List Node). MatchResult c.rule_out_leaf.result (λ _. IsRuledOut (All (SubstitutedFits n forms) (way_rows t c.args.way.now)) (with_rows c.args.base.now (map (substituted n forms) (way_rows t c.args.way.now))))
    (IsStop (TargetFinds (All (SubstitutedFits n forms) (way_rows t c.args.way.now)) (with_rows c.args.base.now (map (substituted n forms) (way_rows t c.args.way.now))) (target_of c.args.leaf (NoMove (c.args.place + 1))))))
    c.tree-tree.ensures.value c.rule_out_leaf.ensures.found)
