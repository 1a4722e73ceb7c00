use Rattle.std.proofs.Common.{codes, refl, sym, ◌∙◌, ap, subst, arith, length, map}
use Rattle.std.proofs.lemmas.List.{length-map}
use Rattle.mpc_controller.specs.Bounds.{IsController}
use Rattle.mpc_grammar.specs.Reading.{one_line}
use Rattle.mpc_grammar.specs.PlantGrammar.{plain_rule, UsesAll}
use Rattle.mpc_grammar.specs.LawGrammar.{law_named}
use Rattle.mpc_grammar.specs.TreeGrammar.{planes, IsWord}
use Rattle.mpc_law_lines.specs.TreeReading.{named_tree_nodes}
use Rattle.mpc_file.specs.Unsealed.{unsealed}
use Rattle.mpc_grammar.specs.FileGrammar.{named, parts_with}
use Rattle.mpc_file.proofs.LawShapes.{named_good}
use Rattle.mpc_file.proofs.FileShapes.{named_parts}
use Rattle.mpc_file.proofs.WholeReading.{passed_on, planes_fail, planes_read, nodes_fail, nodes_read, last_fails, last_read, nodes_of, none_behind}
use Rattle.mpc_file.proofs.reading.read_named.Goals as goal

pub returns-in_err-planes : goal.returns-in_err-planes
returns-in_err-planes c =
    let ls = c.in_ok-laws.ensures in
    passed_on (planes c.args.plant.now c.len.result c.in_ok-laws.used) (unsealed c.args.plant.now (named c.args.plant.now)) c.read_named_laws.new.lines c.read_planes.new.lines c.args.lines.now c.read_planes.new.lines c.from_residual-in_err-planes.result c.in_err-planes.field-0.0
    (planes_fail c.args.plant.now c.args.lines.now c.read_forms.new.lines c.in_ok-forms.forms c.in_ok-forms.ensures.outcome c.read_named_laws.new.lines ls.named ls.reads c.len.result c.in_ok-laws.used c.len.ensures ls.used_is) c.in_err-planes.ensures c.from_residual-in_err-planes.ensures.1

pub read_named_tree-requires : goal.read_named_tree-requires
read_named_tree-requires c =
    let ls = c.in_ok-laws.ensures in
    omega (arith, c.len-2.ensures, ap length ls.laws_are, (named_good c.args.plant.now c.args.lines.now c.read_forms.new.lines c.in_ok-forms.forms ls.named c.read_named_laws.new.lines c.in_ok-forms.ensures.outcome ls.reads).few)

pub returns-in_err-tree : goal.returns-in_err-tree
returns-in_err-tree c =
    let ls = c.in_ok-laws.ensures in
    passed_on (named_tree_nodes c.args.plant.now c.len-2.result c.in_ok-planes.planes) (unsealed c.args.plant.now (named c.args.plant.now)) c.read_planes.new.lines c.read_named_tree.new.lines c.args.lines.now c.read_named_tree.new.lines c.from_residual-in_err-tree.result c.in_err-tree.field-0.0
    (λ kind number f. nodes_fail c.args.plant.now c.args.lines.now c.read_forms.new.lines c.in_ok-forms.forms c.in_ok-forms.ensures.outcome c.read_named_laws.new.lines ls.named ls.reads c.len.result c.in_ok-laws.used c.len.ensures ls.used_is c.read_planes.new.lines c.in_ok-planes.planes c.in_ok-planes.ensures c.len-2.result
    (c.len-2.ensures ∙ ap length ls.laws_are ∙ length-map ls.named (law_named c.args.plant.now c.in_ok-forms.forms)) kind number (none_behind c.args.plant.now c.len-2.result c.in_ok-planes.planes c.read_planes.new.lines kind number f))
    c.in_err-tree.ensures c.from_residual-in_err-tree.ensures.1

pub returns-in_err-read_end : goal.returns-in_err-read_end
returns-in_err-read_end c =
    let ls = c.in_ok-laws.ensures in
    let t = nodes_of c.args.plant.now c.len-2.result c.in_ok-planes.planes c.read_planes.new.lines c.read_named_tree.new.lines c.in_ok-tree.tree c.in_ok-tree.splits c.in_ok-tree.ensures in
    passed_on (one_line (plain_rule (UsesAll c.len-3.result c.in_ok-tree.splits (IsWord (codes "end"))))) (unsealed c.args.plant.now (named c.args.plant.now)) c.read_named_tree.new.lines c.read_end.new.lines c.args.lines.now c.read_end.new.lines c.from_residual-in_err-read_end.result c.in_err-read_end.field-0.0
    (last_fails c.args.plant.now c.args.lines.now c.read_forms.new.lines c.in_ok-forms.forms c.in_ok-forms.ensures.outcome c.read_named_laws.new.lines ls.named ls.reads c.len.result c.in_ok-laws.used c.len.ensures ls.used_is c.read_planes.new.lines c.in_ok-planes.planes c.in_ok-planes.ensures c.len-2.result
    (c.len-2.ensures ∙ ap length ls.laws_are ∙ length-map ls.named (law_named c.args.plant.now c.in_ok-forms.forms)) c.read_named_tree.new.lines t.ns t.reads c.len-3.result c.in_ok-tree.splits c.len-3.ensures t.splits_is)
    c.in_err-read_end.ensures c.from_residual-in_err-read_end.ensures.1

pub returns : goal.returns
returns c =
    let ls = c.in_ok-laws.ensures in
    let t = nodes_of c.args.plant.now c.len-2.result c.in_ok-planes.planes c.read_planes.new.lines c.read_named_tree.new.lines c.in_ok-tree.tree c.in_ok-tree.splits c.in_ok-tree.ensures in (
      (
        c.in_ok-forms.forms,
        (
          c.read_forms.new.lines,
          (
            c.in_ok-forms.ensures.outcome,
            (
              ls.named,
              (
                c.read_named_laws.new.lines,
                (
                  ls.reads,
                  (
                    c.in_ok-planes.planes,
                    (
                      c.read_planes.new.lines,
                      (
                        planes_read c.args.plant.now c.args.lines.now c.read_forms.new.lines c.in_ok-forms.forms c.in_ok-forms.ensures.outcome c.read_named_laws.new.lines ls.named ls.reads c.len.result c.in_ok-laws.used c.len.ensures ls.used_is c.read_planes.new.lines c.in_ok-planes.planes c.in_ok-planes.ensures c.len-2.result
                            (c.len-2.ensures ∙ ap length ls.laws_are ∙ length-map ls.named (law_named c.args.plant.now c.in_ok-forms.forms)),
                        (
                          t.ns,
                          (
                            c.read_named_tree.new.lines,
                            (
                              nodes_read c.args.plant.now c.args.lines.now c.read_forms.new.lines c.in_ok-forms.forms c.in_ok-forms.ensures.outcome c.read_named_laws.new.lines ls.named ls.reads c.len.result c.in_ok-laws.used c.len.ensures ls.used_is c.read_planes.new.lines c.in_ok-planes.planes c.in_ok-planes.ensures c.len-2.result
                                  (c.len-2.ensures ∙ ap length ls.laws_are ∙ length-map ls.named (law_named c.args.plant.now c.in_ok-forms.forms)) c.read_named_tree.new.lines t.ns t.reads c.len-3.result c.in_ok-tree.splits c.len-3.ensures t.splits_is,
                              (
                                tt,
                                (
                                  c.read_end.new.lines,
                                  (
                                    last_read c.args.plant.now c.args.lines.now c.read_forms.new.lines c.in_ok-forms.forms c.in_ok-forms.ensures.outcome c.read_named_laws.new.lines ls.named ls.reads c.len.result c.in_ok-laws.used c.len.ensures ls.used_is c.read_planes.new.lines c.in_ok-planes.planes c.in_ok-planes.ensures c.len-2.result
                                        (c.len-2.ensures ∙ ap length ls.laws_are ∙ length-map ls.named (law_named c.args.plant.now c.in_ok-forms.forms)) c.read_named_tree.new.lines t.ns t.reads c.len-3.result c.in_ok-tree.splits c.len-3.ensures t.splits_is tt c.read_end.new.lines c.in_ok-read_end.ensures,
                                    (ap (λ ws. parts_with c.args.plant.now ws c.in_ok-tree.tree) ls.laws_are ∙ ap (parts_with c.args.plant.now (map (law_named c.args.plant.now c.in_ok-forms.forms) ls.named)) t.tree_is, refl),
                                  ),
                                ),
                              ),
                            ),
                          ),
                        ),
                      ),
                    ),
                  ),
                ),
              ),
            ),
          ),
        ),
      ),
      let good = named_parts c.preorder_theorems.ensures.split c.preorder_theorems.ensures.leaf c.args.plant.now c.args.lines.now c.read_forms.new.lines c.read_named_laws.new.lines c.read_planes.new.lines c.read_named_tree.new.lines c.in_ok-forms.forms ls.named c.in_ok-planes.planes t.ns c.in_ok-forms.ensures.outcome ls.reads
          (planes_read c.args.plant.now c.args.lines.now c.read_forms.new.lines c.in_ok-forms.forms c.in_ok-forms.ensures.outcome c.read_named_laws.new.lines ls.named ls.reads c.len.result c.in_ok-laws.used c.len.ensures ls.used_is c.read_planes.new.lines c.in_ok-planes.planes c.in_ok-planes.ensures c.len-2.result
          (c.len-2.ensures ∙ ap length ls.laws_are ∙ length-map ls.named (law_named c.args.plant.now c.in_ok-forms.forms)))
          (nodes_read c.args.plant.now c.args.lines.now c.read_forms.new.lines c.in_ok-forms.forms c.in_ok-forms.ensures.outcome c.read_named_laws.new.lines ls.named ls.reads c.len.result c.in_ok-laws.used c.len.ensures ls.used_is c.read_planes.new.lines c.in_ok-planes.planes c.in_ok-planes.ensures c.len-2.result
          (c.len-2.ensures ∙ ap length ls.laws_are ∙ length-map ls.named (law_named c.args.plant.now c.in_ok-forms.forms)) c.read_named_tree.new.lines t.ns t.reads c.len-3.result c.in_ok-tree.splits c.len-3.ensures t.splits_is) in
          subst (λ ws. IsController c.args.plant.now ws c.in_ok-tree.tree) (sym ls.laws_are) (subst (IsController c.args.plant.now (map (law_named c.args.plant.now c.in_ok-forms.forms) ls.named)) (sym t.tree_is) good),
    )
