use Rattle.std.proofs.Common.{All, Ok, Err, sym, ◌∙◌, ap, subst}
use Rattle.mpc_rows.specs.Laws.{HasLawShape}
use Rattle.mpc_check.specs.Findings.{IsSearched}
use Rattle.mpc_check.specs.LawConditions.{LawsMet, LawsFind}
use Rattle.mpc_check.specs.LeafConditions.{TreeMet, TreeFinds}
use Rattle.mpc_check.specs.Acceptance.{BehindMet}
use Rattle.mpc_check.proofs.FindingLemmas.{earlier_error}
use Rattle.mpc_check.specs.Stretches.{HaveProgramShapes}
use Rattle.mpc_check.proofs.CheckLemmas.{laws_shaped, program_shapes, behind_tree}
use Rattle.mpc_check.proofs.checks.search.Goals as goal

pub returns-in-Ok-None : goal.returns-in-Ok-None
returns-in-Ok-None g c =
    let qp = c.args.qp.now in
    let parts = c.args.controller.now in
    behind_tree qp parts c.search_tree.result
    (subst (λ laws. LawsMet qp laws) c.laws.ensures.value
    (subst (λ r. IsSearched (LawsMet qp c.laws.result.now) (LawsFind qp c.laws.result.now) r) (c.in-Ok-None.is ∙ ap Ok c.in-Ok-None.field-0-is) c.search_laws.ensures))
    (subst (λ laws. IsSearched (TreeMet qp laws parts.tree) (TreeFinds qp laws parts.tree) c.search_tree.result) c.laws-in-Ok-None.ensures.value
    (subst (λ nodes. IsSearched (TreeMet qp c.laws-in-Ok-None.result.now nodes) (TreeFinds qp c.laws-in-Ok-None.result.now nodes) c.search_tree.result) c.tree.ensures.value c.search_tree.ensures))

pub returns-in-Err : goal.returns-in-Err
returns-in-Err g c =
    let qp = c.args.qp.now in
    let parts = c.args.controller.now in
    earlier_error (LawsMet qp parts.laws) (BehindMet qp parts) (LawsFind qp parts.laws) (TreeFinds qp parts.laws parts.tree) c.in-Err.error
    (subst (λ laws. IsSearched (LawsMet qp laws) (LawsFind qp laws) (Err c.in-Err.error)) c.laws.ensures.value
    (subst (λ r. IsSearched (LawsMet qp c.laws.result.now) (LawsFind qp c.laws.result.now) r) c.in-Err.is c.search_laws.ensures))

pub search_laws-requires-clause-shapes : goal.search_laws-requires-clause-shapes
search_laws-requires-clause-shapes g c =
    let parts = c.args.controller.now in
    subst (All (HasLawShape c.args.qp.now)) (sym c.laws.ensures.value) (laws_shaped parts.plant c.args.qp.now c.requires.condensed parts.laws c.laws.ensures.controller.shapes.laws_fit)

pub search_tree-requires : goal.search_tree-requires
search_tree-requires g c =
    let parts = c.args.controller.now in
    record {
      shapes = subst (λ laws. HaveProgramShapes c.args.qp.now laws c.tree.result.now) (sym c.laws-in-Ok-None.ensures.value)
          (subst (HaveProgramShapes c.args.qp.now parts.laws) (sym c.tree.ensures.value) (program_shapes parts c.args.qp.now c.requires c.laws.ensures.controller.shapes));
    }
