use Rattle.std.proofs.Common.{sym, subst}
use Rattle.std.specs.Prelude.{Result}
use Rattle.mpc_cli.specs.declared.answer.Answer.{Answer}
use Rattle.mpc_cli.specs.declared.inputs.Halt.{Halt}
use Rattle.mpc_cli.specs.Outcomes.{Closes}
use Rattle.mpc_cli.proofs.RunLemmas.{halt_closes}
use Rattle.mpc_cli.proofs.calls.close.Goals as goal

pub returns-in-Err : goal.returns-in-Err
returns-in-Err g c =
    let taken = g.K.Sink.taken c.args.sink.now in
    let faults = g.K.Sink.faults c.args.sink.now in
    let status = c.halt_status.result in
    subst (λ (o : Result Answer Halt). Closes o taken taken faults faults status) (sym c.in-Err.is) (halt_closes c.in-Err.halt status taken faults c.halt_status.ensures.source c.halt_status.ensures.memory)
