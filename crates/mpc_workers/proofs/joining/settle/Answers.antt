use Rattle.std.proofs.Common.{Ok, subst}
use Rattle.mpc_claim.specs.declared.tickets.Claimed.{Claimed}
use Rattle.mpc_claim.specs.Answers.{Claims}
use Rattle.mpc_workers.proofs.Lasting.{no_job, not_idle, ends_finished, ends_stopped}
use Rattle.mpc_workers.proofs.joining.settle.Goals as goal

pub unreachable-requires : goal.unreachable-requires
unreachable-requires c =
    no_job c.claim_theorems.ensures.answers c.args._qp.now c.args._workers c.args.registry.now c.requires 1 c.in-Job.ticket c.claim.new.self
    (subst (λ (a : Claimed). Claims c.args.registry.now 1 (Ok a) c.claim.new.self) c.in-Job.is c.in_ok-ticket.ensures)

pub unreachable-requires-in-Idle : goal.unreachable-requires-in-Idle
unreachable-requires-in-Idle c =
    let k = subst (λ (a : Claimed). Claims c.args.registry.now 1 (Ok a) c.claim.new.self) c.in-Idle.is c.in_ok-ticket.ensures in
    not_idle c.claim_theorems.ensures.answers c.args._qp.now c.args._workers c.args.registry.now c.requires k.1

pub returns-in-Finished : goal.returns-in-Finished
returns-in-Finished c =
    let k = subst (λ (a : Claimed). Claims c.args.registry.now 1 (Ok a) c.claim.new.self) c.in-Finished.is c.in_ok-ticket.ensures in
    ends_finished c.args._qp.now c.args._workers c.args.registry.now c.claim.new.self c.requires c.history-history.ensures.sound k.0 k.1

pub returns-in-Stopped : goal.returns-in-Stopped
returns-in-Stopped c =
    let k = subst (λ (a : Claimed). Claims c.args.registry.now 1 (Ok a) c.claim.new.self) c.in-Stopped.is c.in_ok-ticket.ensures in
    ends_stopped c.args._qp.now c.args._workers c.args.registry.now c.claim.new.self c.requires c.history-history-in-Stopped.ensures.sound k.0 k.1
