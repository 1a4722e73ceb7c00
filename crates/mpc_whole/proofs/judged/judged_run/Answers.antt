use Rattle.mpc_whole.proofs.judged.judged_run.Goals as goal

pub judged_step-requires-clause-lists : goal.judged_step-requires-clause-lists
judged_step-requires-clause-lists c = c.steps.invariant.lists

pub judged_step-requires-clause-underway : goal.judged_step-requires-clause-underway
judged_step-requires-clause-underway c = c.steps.invariant.underway
