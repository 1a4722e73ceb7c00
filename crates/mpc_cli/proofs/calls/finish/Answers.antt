use Rattle.std.proofs.Common.{◌++◌, ◌∙◌, ap}
use Rattle.mpc_cli.specs.Outcomes.{wrote_all}
use Rattle.mpc_cli.proofs.RunLemmas.{failed_ends, full_ends}
use Rattle.mpc_cli.proofs.calls.finish.Goals as goal

pub returns-in-Ok : goal.returns-in-Ok
returns-in-Ok g c = wrote_all (c.in-Ok.ensures.whole ∙ ap (λ text. g.K.Sink.taken c.args.sink.now ++ text) c.deref.ensures.value)

pub returns-in-Err-Failed : goal.returns-in-Err-Failed
returns-in-Err-Failed g c =
    let failed = c.in-Err-Failed in
    failed_ends c.args.answer.status c.args.answer.text.items c.deref.result.now _ _ _ _ failed.field-0 failed.field-0-is c.deref.ensures.value failed.ensures.part failed.ensures.cause

pub returns : goal.returns
returns g c = full_ends c.args.answer.status c.args.answer.text.items c.deref.result.now _ _ _ _ c.deref.ensures.value c.in-Err-NoMemory.ensures.part
