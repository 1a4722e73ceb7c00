use Rattle.std.proofs.Common.{map, string_bytes, rules}
use Rattle.mpc_cli.specs.Commands.{HasCount}
use Rattle.mpc_cli.proofs.CommandLemmas.{named_count, reads_named}
use Rattle.mpc_cli.proofs.RespondLemmas.{some_words, halt_words}
use Rattle.mpc_cli.proofs.RunLemmas.{closed}
use Rattle.mpc_cli.proofs.StatedLemmas.{closed_stated}
use Rattle.mpc_cli.proofs.calls.run.Goals as goal

pub answer_in_threads-outcome-requires : goal.answer_in_threads-outcome-requires
answer_in_threads-outcome-requires g c = let count : HasCount c.in-Some.command = named_count (map string_bytes c.args.words.now) c.in-Some.command c.in-Some.ensures.0 in search rules

pub returns-in-Some-clause-answers : goal.returns-in-Some-clause-answers
returns-in-Some-clause-answers g c =
    let words = map string_bytes c.args.words.now in
    let o = c.answer_in_threads-outcome in
    let given = g.S.Source.given c.args.source.now in
    let given_after = g.S.Source.given o.new.source in
    closed c.one_status.ensures.one c.one_status.ensures.passing _ _ o.result c.close.result
    (some_words words c.in-Some.command c.in-Some.ensures.0 given given_after o.result o.ensures.some)
    (halt_words words c.in-Some.command c.in-Some.ensures.0 given given_after (g.S.Source.faults c.args.source.now) (g.S.Source.faults o.new.source) o.result o.ensures.halt) c.close.ensures

pub returns-in-Some-clause-stated : goal.returns-in-Some-clause-stated
returns-in-Some-clause-stated g c =
    let words = map string_bytes c.args.words.now in
    let o = c.answer_in_threads-outcome in
    let given = g.S.Source.given c.args.source.now in
    let given_after = g.S.Source.given o.new.source in
    closed_stated words given given_after _ _ _ _ o.result c.close.result (some_words words c.in-Some.command c.in-Some.ensures.0 given given_after o.result o.ensures.some) c.close.ensures

pub returns-in-Some-clause-unread : goal.returns-in-Some-clause-unread
returns-in-Some-clause-unread g c = λ unread. c.answer_in_threads-outcome.ensures.unread (reads_named (map string_bytes c.args.words.now) c.in-Some.command c.in-Some.ensures.0 unread)
