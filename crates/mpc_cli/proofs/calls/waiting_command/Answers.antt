use Rattle.std.proofs.Common.{◌≡◌, false, true, map, string_bytes, sym, ◌∙◌}
use Rattle.mpc_cli.proofs.CommandLemmas.{unwaiting}
use Rattle.mpc_cli.proofs.calls.waiting_command.Goals as goal

pub returns : goal.returns
returns c =
    unwaiting (map string_bytes c.args.words.now) c.in_ok-command.command c.in_ok-command.ensures
    (λ w. let no : false ≡ true = sym c.if-waits.false ∙ c.waits.ensures.1 w in absurd cc)
