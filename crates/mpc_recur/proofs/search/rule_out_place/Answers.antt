use Rattle.std.proofs.Common.{◌≡◌, ◌-◌, List, Some, sym, ◌∙◌, ap}
use Rattle.std.specs.Prelude.{slice_get}
use Rattle.mpc_rows.specs.declared.laws.Law.{Law as LawOfSet}
use Rattle.mpc_rows.specs.declared.trees.Node.{Node}
use Rattle.mpc_controller.specs.Parts.{IsLawFor}
use Rattle.mpc_controller.specs.Ways.{way_rows}
use Rattle.mpc_recur.proofs.ElementLemmas.{all_at}
use Rattle.mpc_recur.proofs.LeafLemmas.{law_found}
use Rattle.mpc_recur.proofs.search.rule_out_place.Goals as goal

pub rule_out_targets-requires-clause-way : goal.rule_out_targets-requires-clause-way
rule_out_targets-requires-clause-way c = c.way_theorems.ensures.turns c.args.controller.now.tree c.args.place c.args.way.now c.requires.way

pub rule_out_targets-requires-clause-law : goal.rule_out_targets-requires-clause-law
rule_out_targets-requires-clause-law c =
    let named : slice_get c.args.controller.now.laws (c.in-Law.law - 1) ≡ Some c.at-of_leaf.result.now = ap (λ (ls : List LawOfSet). slice_get ls (c.in-Law.law - 1)) (sym c.laws.ensures.value) ∙ c.at-of_leaf.ensures in
    all_at (IsLawFor c.args.controller.now.plant) c.args.controller.now.laws (c.in-Law.law - 1) c.at-of_leaf.result.now named c.tree-tree.ensures.controller.shapes.laws_fit

pub returns : goal.returns
returns c =
    let tree = c.args.controller.now.tree in
    let named : slice_get c.args.controller.now.laws (c.in-Law.law - 1) ≡ Some c.at-of_leaf.result.now = ap (λ (ls : List LawOfSet). slice_get ls (c.in-Law.law - 1)) (sym c.laws.ensures.value) ∙ c.at-of_leaf.ensures in
    let there : slice_get tree c.args.place ≡ Some c.at.result.now = ap (λ (t : List Node). slice_get t c.args.place) (sym c.tree-tree.ensures.value) ∙ c.at.ensures in
    law_found c.one_path.ensures c.args.controller.now c.args.place (way_rows tree c.args.way.now) (c.way_theorems.ensures.path tree c.args.place c.args.way.now c.requires.way) c.at.result.now there c.in-Law.law c.in-Law.certs c.at-of_leaf.result.now c.in-Law.is named c.rule_out_targets.result
    c.rule_out_targets.ensures
