use Rattle.std.proofs.Common.{subst}
use Rattle.std.specs.Prelude.{Result, IfErr}
use Rattle.mpc_claim.specs.Board.{Board}
use Rattle.mpc_condense.specs.declared.convex.ProgramError.{ProgramError as SynthesisError}
use Rattle.mpc_synthesis.specs.Refusals.{Extent, ExplainsSynthesisError}
use Rattle.mpc_cli.specs.Extents.{extent_of}
use Rattle.mpc_cli.proofs.PlantEnds.{refused_by}
use Rattle.mpc_cli.proofs.plant_answers.outcome_answer.Goals as goal

pub returns-in-Err : goal.returns-in-Err
returns-in-Err g c =
    refused_by c.plant_refusal.result c.in-Err.error c.args.command c.args.plant c.args.counts.now
    (subst (λ (r : Result Board SynthesisError). IfErr r (λ e. (extent : Extent) → ExplainsSynthesisError extent c.args.plant e)) c.in-Err.is c.requires.refused (extent_of c.args.command))
    c.plant_refusal.ensures
