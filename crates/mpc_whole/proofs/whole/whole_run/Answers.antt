use Rattle.mpc_whole.proofs.whole.whole_run.Goals as goal

pub step-requires-clause-lists : goal.step-requires-clause-lists
step-requires-clause-lists c = c.steps.invariant.lists

pub step-requires-clause-held : goal.step-requires-clause-held
step-requires-clause-held c = c.steps.invariant.held

pub step-requires-clause-underway : goal.step-requires-clause-underway
step-requires-clause-underway c = c.steps.invariant.underway
