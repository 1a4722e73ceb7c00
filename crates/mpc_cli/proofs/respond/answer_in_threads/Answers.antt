use Rattle.std.proofs.Common.{ℕ, List, subst}
use Rattle.std.specs.Prelude.{IfOk}
use Rattle.mpc_cli.specs.Outcomes.{IsAnswerTo}
use Rattle.mpc_cli.proofs.RespondLemmas.{some_whole_of, some_long_of, memory_halt}
use Rattle.mpc_cli.proofs.respond.answer_in_threads.Goals as goal

pub returns-in-Ok-Whole-clause-some : goal.returns-in-Ok-Whole-clause-some
returns-in-Ok-Whole-clause-some g c =
    let w = c.in-Ok-Whole in
    some_whole_of c.args.command (g.S.Source.given c.args.source.now) (g.S.Source.given c.read_input.new.source) c.due_statuses.ensures w.field-0 w.input w.field-0-is w.ensures.came c.command_answer_in_threads.result c.or_halt.result c.or_halt.ensures.same
    (subst (λ (b : List ℕ). IfOk c.command_answer_in_threads.result (λ a. IsAnswerTo c.args.command b a.status a.text.items)) c.deref.ensures.value c.command_answer_in_threads.ensures)

pub returns-in-Ok-Whole-clause-halt : goal.returns-in-Ok-Whole-clause-halt
returns-in-Ok-Whole-clause-halt g c =
    memory_halt c.args.command (g.S.Source.given c.args.source.now) (g.S.Source.given c.read_input.new.source) (g.S.Source.faults c.args.source.now) (g.S.Source.faults c.read_input.new.source) c.in-Ok-Whole.field-0 c.or_halt.result c.in-Ok-Whole.ensures.came c.or_halt.ensures.halt

pub returns-in-Ok-TooLong-clause-some : goal.returns-in-Ok-TooLong-clause-some
returns-in-Ok-TooLong-clause-some g c =
    let l = c.in-Ok-TooLong in
    some_long_of c.args.command (g.S.Source.given c.args.source.now) (g.S.Source.given c.read_input.new.source) l.field-0 l.field-0-is c.refused.result c.refused.ensures.status c.refused.ensures.text l.ensures.came

pub returns-in-Ok-TooLong-clause-halt : goal.returns-in-Ok-TooLong-clause-halt
returns-in-Ok-TooLong-clause-halt g c =
    memory_halt c.args.command (g.S.Source.given c.args.source.now) (g.S.Source.given c.read_input.new.source) (g.S.Source.faults c.args.source.now) (g.S.Source.faults c.read_input.new.source) c.in-Ok-TooLong.field-0 c.refused.result c.in-Ok-TooLong.ensures.came c.refused.ensures.halt
