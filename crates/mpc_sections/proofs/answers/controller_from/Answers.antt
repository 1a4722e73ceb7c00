use Rattle.std.proofs.Common.{◌≡◌, ℕ, subst, rules, ⊎_elim}
use Rattle.mpc_rows.specs.declared.programs.Qp.{Qp}
use Rattle.mpc_rows.specs.declared.verdicts.Verdict.TheVariants.{Wide}
use Rattle.mpc_claim.specs.declared.events.Phase.TheVariants.{Finished}
use Rattle.mpc_claim.specs.Answers.{IsFirstBad}
use Rattle.mpc_synthesis.specs.Programs.{IsDecidedBy}
use Rattle.mpc_synthesis.specs.Refusals.{controller, wide_set}
use Rattle.mpc_sections.proofs.StepLemmas.{decided_by}
use Rattle.mpc_sections.proofs.answers.controller_from.Goals as goal

pub returns-in-Some-clause-refused : goal.returns-in-Some-clause-refused
returns-in-Some-clause-refused g c =
    wide_set controller c.requires.qp c.in-Some.place c.requires.convex.has_program c.requires.convex.pivots
    (subst (λ (q : Qp). IsFirstBad q (Wide c.in-Some.place)) c.requires.done.program c.in-Some.ensures)

pub controller_of-requires : goal.controller_of-requires
controller_of-requires g c =
    let finished : c.args.registry.phase ≡ Finished = ⊎_elim (λ f. f.0) (λ s. absurd (c.in-None.ensures s.0)) c.requires.done.ended in
    let decided : (workers : ℕ) × IsDecidedBy workers c.args.plant c.args.registry = decided_by c.legal_theorems.ensures.legal c.args.plant c.args.registry c.requires finished in
    search rules
