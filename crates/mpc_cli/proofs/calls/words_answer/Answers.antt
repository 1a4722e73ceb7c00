use Rattle.std.proofs.Common.{map, string_bytes}
use Rattle.mpc_cli.proofs.CommandLemmas.{named_count, named_alone, reads_named}
use Rattle.mpc_cli.proofs.RespondLemmas.{some_words, halt_words, some_usage, halt_usage}
use Rattle.mpc_cli.proofs.calls.words_answer.Goals as goal

pub answer_alone-requires : goal.answer_alone-requires
answer_alone-requires g c =
    let words = map string_bytes c.args.words.now in
    (c.type_bounds.sync-T, (named_count words c.in-Some.command c.in-Some.ensures, named_alone words c.in-Some.command c.in-Some.ensures c.requires))

pub returns-in-Some-clause-some : goal.returns-in-Some-clause-some
returns-in-Some-clause-some g c =
    some_words (map string_bytes c.args.words.now) c.in-Some.command c.in-Some.ensures (g.S.Source.given c.args.source.now) (g.S.Source.given c.answer_alone.new.source) c.answer_alone.result c.answer_alone.ensures.some

pub returns-in-Some-clause-halt : goal.returns-in-Some-clause-halt
returns-in-Some-clause-halt g c =
    halt_words (map string_bytes c.args.words.now) c.in-Some.command c.in-Some.ensures (g.S.Source.given c.args.source.now) (g.S.Source.given c.answer_alone.new.source) (g.S.Source.faults c.args.source.now) (g.S.Source.faults c.answer_alone.new.source) c.answer_alone.result c.answer_alone.ensures.halt

pub returns-in-Some-clause-unread : goal.returns-in-Some-clause-unread
returns-in-Some-clause-unread g c = λ unread. c.answer_alone.ensures.unread (reads_named (map string_bytes c.args.words.now) c.in-Some.command c.in-Some.ensures unread)

pub returns-in-None-clause-some : goal.returns-in-None-clause-some
returns-in-None-clause-some g c = some_usage (map string_bytes c.args.words.now) c.in-None.ensures (g.S.Source.given c.args.source.now) c.refused.result c.refused.ensures.status c.refused.ensures.text

pub returns-in-None-clause-halt : goal.returns-in-None-clause-halt
returns-in-None-clause-halt g c = halt_usage (map string_bytes c.args.words.now) c.in-None.ensures (g.S.Source.given c.args.source.now) (g.S.Source.faults c.args.source.now) (g.S.Source.faults c.args.source.now) c.refused.result c.refused.ensures.halt
