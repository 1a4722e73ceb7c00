use Rattle.mpc_files.proofs.safety.test_steps.Goals as goal

pub returns-in-Ok-Safe-clause-answer : goal.returns-in-Ok-Safe-clause-answer
returns-in-Ok-Safe-clause-answer c =
    let found = rw c.in-Ok-Safe.field-0-is at c.in-Ok-Safe.ensures.answer in
    record { accepts = c.requires; safe = found; forever = c.safe_stays_right.ensures c.args.controller.now c.plant.ensures.controller c.requires found.safe }

pub returns-in-Ok-Unsafe-clause-answer : goal.returns-in-Ok-Unsafe-clause-answer
returns-in-Ok-Unsafe-clause-answer c = record { accepts = c.requires; leads = rw c.in-Ok-Unsafe.field-0-is at c.in-Ok-Unsafe.ensures.answer }

pub returns-in-Err-Wide-clause-cause : goal.returns-in-Err-Wide-clause-cause
returns-in-Err-Wide-clause-cause c = record { accepts = c.requires; first = rw c.in-Err-Wide.field-0-is at c.in-Err-Wide.ensures.cause }
