use Rattle.mpc_synthesis.proofs.CompiledChecks.{the_laws, only_width, no_refusal, only_width_errs, fitting_accepted}
use Rattle.mpc_synthesis.proofs.answers.compiled_accepted.Goals as goal

pub returns : goal.returns
returns c =
    let laws = the_laws c.pivot_theorems.ensures.definite c.one_program.ensures c.one_finding.ensures.program c.law_conditions.ensures.stationary c.law_conditions.ensures.active c.one_path.ensures c.preorder_theorems.ensures.joined in
    record { found = only_width laws; answer = no_refusal laws; error = only_width_errs laws; fitting = fitting_accepted laws }
