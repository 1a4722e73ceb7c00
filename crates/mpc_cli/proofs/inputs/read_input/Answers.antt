use Rattle.std.proofs.Common.{rules}
use Rattle.mpc_cli.proofs.RespondLemmas.{whole_input}
use Rattle.mpc_cli.proofs.inputs.read_input.Goals as goal

pub returns-in-Ok-clause-came : goal.returns-in-Ok-clause-came
returns-in-Ok-clause-came g c = whole_input c.args.command _ _ c.in-Ok.input.items c.in-Ok.ensures.to_end (search rules)
