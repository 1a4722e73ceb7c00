use Rattle.std.proofs.Common.{Ok, sym, ◌∙◌, subst}
use Rattle.mpc_claim.specs.declared.tickets.Claimed.{Claimed}
use Rattle.mpc_claim.specs.Answers.{Claims}
use Rattle.mpc_workers.proofs.Turns.{job_rows, job_few, turn_counts, turn_taken, middle_program, never_idle, ends_finished, ends_stopped}
use Rattle.mpc_workers.proofs.take_turns.Goals as goal

pub take_turn-requires-clause-examiner : goal.take_turn-requires-clause-examiner
take_turn-requires-clause-examiner g c =
    c.turns.invariant.examiner ∙ sym (middle_program c.legal_theorems.ensures.legal c.legal_theorems.ensures.claims c.legal_theorems.ensures.appended c.claim_theorems.ensures.candidates c.args._qp.now c.turns.registry c.claim.new.self c.claim.new.self c.in-Job.ticket c.turns.invariant.between
    (subst (λ (a : Claimed). Claims c.turns.registry 1 (Ok a) c.claim.new.self) c.in-Job.is c.in_ok-ticket.ensures))

pub take_turn-requires-clause-set_of_rows : goal.take_turn-requires-clause-set_of_rows
take_turn-requires-clause-set_of_rows g c =
    job_rows c.legal_theorems.ensures.legal c.legal_theorems.ensures.claims c.legal_theorems.ensures.appended c.claim_theorems.ensures.candidates c.args._qp.now c.turns.registry c.claim.new.self c.claim.new.self c.in-Job.ticket c.turns.invariant.between
    (subst (λ (a : Claimed). Claims c.turns.registry 1 (Ok a) c.claim.new.self) c.in-Job.is c.in_ok-ticket.ensures)

pub take_turn-requires-clause-few : goal.take_turn-requires-clause-few
take_turn-requires-clause-few g c =
    job_few c.legal_theorems.ensures.legal c.legal_theorems.ensures.claims c.legal_theorems.ensures.appended c.claim_theorems.ensures.candidates c.args._qp.now c.turns.registry c.claim.new.self c.claim.new.self c.in-Job.ticket c.turns.invariant.between
    (subst (λ (a : Claimed). Claims c.turns.registry 1 (Ok a) c.claim.new.self) c.in-Job.is c.in_ok-ticket.ensures)

pub turns-smaller : goal.turns-smaller
turns-smaller g c =
    turn_counts c.legal_theorems.ensures.legal c.legal_theorems.ensures.claims c.legal_theorems.ensures.appended c.claim_theorems.ensures.candidates c.args._qp.now c.turns.registry c.claim.new.self c.take_turn.new.registry c.in-Job.ticket c.turns.invariant.between
    (subst (λ (a : Claimed). Claims c.turns.registry 1 (Ok a) c.claim.new.self) c.in-Job.is c.in_ok-ticket.ensures) c.in_ok-take_turn-in-Job.ensures.ok

pub turns-preserved : goal.turns-preserved
turns-preserved g c = record {
  between = turn_taken c.legal_theorems.ensures.legal c.legal_theorems.ensures.claims c.legal_theorems.ensures.appended c.claim_theorems.ensures.candidates c.args._qp.now c.turns.registry c.claim.new.self c.take_turn.new.registry c.in-Job.ticket c.turns.invariant.between
      (subst (λ (a : Claimed). Claims c.turns.registry 1 (Ok a) c.claim.new.self) c.in-Job.is c.in_ok-ticket.ensures) c.in_ok-take_turn-in-Job.ensures.ok;
  examiner = c.in_ok-take_turn-in-Job.ensures.examiner ∙ c.turns.invariant.examiner;
}

pub returns-in-Idle : goal.returns-in-Idle
returns-in-Idle g c =
    absurd (never_idle c.legal_theorems.ensures.claims c.turns.registry c.turns.invariant.between.turns (subst (λ (a : Claimed). Claims c.turns.registry 1 (Ok a) c.claim.new.self) c.in-Idle.is c.in_ok-ticket.ensures).1)

pub returns-in-Finished : goal.returns-in-Finished
returns-in-Finished g c =
    let k = subst (λ (a : Claimed). Claims c.turns.registry 1 (Ok a) c.claim.new.self) c.in-Finished.is c.in_ok-ticket.ensures in
    ends_finished c.args._qp.now c.turns.registry c.claim.new.self c.turns.invariant.between k.0 k.1

pub returns-in-Stopped : goal.returns-in-Stopped
returns-in-Stopped g c =
    let k = subst (λ (a : Claimed). Claims c.turns.registry 1 (Ok a) c.claim.new.self) c.in-Stopped.is c.in_ok-ticket.ensures in
    ends_stopped c.args._qp.now c.turns.registry c.claim.new.self c.turns.invariant.between k.0 k.1
