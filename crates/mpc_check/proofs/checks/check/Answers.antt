use Rattle.std.proofs.Common.{Ok, ◌∙◌, ap, subst}
use Rattle.mpc_check.specs.Findings.{IsSearched}
use Rattle.mpc_condense.specs.Convex.{IsConvexProgram}
use Rattle.mpc_condense.specs.Refusals.{IsProgramCause}
use Rattle.mpc_check.specs.Acceptance.{BehindMet, BehindFinds}
use Rattle.mpc_check.proofs.CheckLemmas.{refused_cause, accepts_all, refused_behind, behind_cause}
use Rattle.mpc_check.proofs.checks.check.Goals as goal

pub returns-in-Err-clause-cause : goal.returns-in-Err-clause-cause
returns-in-Err-clause-cause g c = refused_cause c.args.controller.now c.in-Err.error (subst (λ plant. IsProgramCause plant c.in-Err.error) c.plant.ensures.value c.in-Err.ensures.cause)

pub returns-in-Ok-None-clause-answer : goal.returns-in-Ok-None-clause-answer
returns-in-Ok-None-clause-answer g c =
    let parts = c.args.controller.now in
    accepts_all c.in-Ok.qp parts (subst (λ plant. IsConvexProgram plant c.in-Ok.qp) c.plant.ensures.value c.in-Ok.ensures.program)
    (subst (λ r. IsSearched (BehindMet c.in-Ok.qp parts) (BehindFinds c.in-Ok.qp parts) r) (c.in-Ok-None.is ∙ ap Ok c.in-Ok-None.field-0-is) c.search.ensures)

pub returns-in-Ok-Some-clause-answer : goal.returns-in-Ok-Some-clause-answer
returns-in-Ok-Some-clause-answer g c =
    let parts = c.args.controller.now in
    refused_behind c.in-Ok.qp parts (subst (λ plant. IsConvexProgram plant c.in-Ok.qp) c.plant.ensures.value c.in-Ok.ensures.program) c.in-Ok-Some.spot
    (subst (λ r. IsSearched (BehindMet c.in-Ok.qp parts) (BehindFinds c.in-Ok.qp parts) r) (c.in-Ok-Some.is ∙ ap Ok c.in-Ok-Some.field-0-is) c.search.ensures)

pub returns-clause-cause : goal.returns-clause-cause
returns-clause-cause g c = behind_cause c.in-Ok.qp c.args.controller.now (subst (λ plant. IsConvexProgram plant c.in-Ok.qp) c.plant.ensures.value c.in-Ok.ensures.program) c.in-Err-search.error c.in-Err-search.ensures
