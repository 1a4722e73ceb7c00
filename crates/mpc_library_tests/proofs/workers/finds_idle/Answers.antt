use Rattle.mpc_library_tests.proofs.workers.finds_idle.Goals as goal

pub abandon_as-requires-clause-hand : goal.abandon_as-requires-clause-hand
abandon_as-requires-clause-hand g c =
    let claimed = rw c.in-Ok-Job.field-0-is at c.in-Ok-Job.ensures in
    c.hand_theorems.ensures.in_hand c.args.pass.now c.claim_as.new.pass c.in-Ok-Job.ticket c.requires.empty claimed
