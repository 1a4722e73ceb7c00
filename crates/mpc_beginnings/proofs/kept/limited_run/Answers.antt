use Rattle.std.proofs.Common.{sym, subst, cond}
use Rattle.std.specs.Prelude.{IfSome}
use Rattle.std.proofs.lemmas.Option.{IfSome_then}
use Rattle.mpc_rows.specs.Run.{count}
use Rattle.mpc_whole.specs.Underway.{HasEnded}
use Rattle.mpc_whole.specs.Lists.{Listed, AreListsOf, of_short, of_wide}
use Rattle.mpc_beginnings.proofs.Listed.{short_of}
use Rattle.mpc_beginnings.specs.Kept.{IsUnderwayWithin}
use Rattle.mpc_beginnings.proofs.kept.limited_run.Goals as goal

pub short_run-requires-clause-lists : goal.short_run-requires-clause-lists
short_run-requires-clause-lists c = subst (λ (t : Listed). AreListsOf c.args.system.now c.args.from.own t) (short_of c.args.lists.now c.if-lists.false) c.requires.lists

pub short_run-requires-clause-start : goal.short_run-requires-clause-start
short_run-requires-clause-start c = subst (λ (t : Listed). IsUnderwayWithin c.args.system.now c.args.numbers.now t c.args.from) (short_of c.args.lists.now c.if-lists.false) c.requires.start

pub short_run-requires-clause-first_small : goal.short_run-requires-clause-first_small
short_run-requires-clause-first_small c = c.requires.short.first c.if-lists.false

pub short_run-requires-clause-second_small : goal.short_run-requires-clause-second_small
short_run-requires-clause-second_small c = c.requires.short.second c.if-lists.false

pub returns-clause-lists : goal.returns-clause-lists
returns-clause-lists c =
    subst (λ b. IfSome c.short_run.result (λ t. AreListsOf c.args.system.now t.0.own (cond b (of_wide c.args.lists.now.wide) (of_short c.short_run.new.lists)))) (sym c.if-lists.false) c.short_run.ensures.lists

pub returns-clause-narrow : goal.returns-clause-narrow
returns-clause-narrow c = IfSome_then c.short_run.result c.short_run.ensures.small (λ t h. c.if-lists.false)

pub returns-clause-short : goal.returns-clause-short
returns-clause-short c = IfSome_then c.short_run.result c.short_run.ensures.small (λ t h. record { first = λ e. h.0; second = λ e. h.1 })

pub returns-clause-end : goal.returns-clause-end
returns-clause-end c =
    let s = c.args.system.now in
    let k = c.args.numbers.now.scales.now in
    let ended = λ (l : Listed). IfSome c.short_run.result (λ t. HasEnded s (count s) l.seats k t.0.den l.numbers l.firsts l.seconds t.0.greatest t.0.greatest_den t.1) in
    subst (λ b. ended (cond b (of_wide c.args.lists.now.wide) (of_short c.short_run.new.lists))) (sym c.if-lists.false) c.short_run.ensures.end
