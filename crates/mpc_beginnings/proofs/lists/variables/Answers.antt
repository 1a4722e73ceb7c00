use Rattle.std.proofs.Common.{rules, sym, ap, ◌∙◌, ◌≡◌, length}
use Rattle.mpc_beginnings.proofs.Listed.{wide_of, short_of}
use Rattle.mpc_beginnings.proofs.lists.variables.Goals as goal

pub returns-then-lists : goal.returns-then-lists
returns-then-lists c =
    let each : c.len.result ≡ length c.args.lists.now.wide.seats.items = search rules in
    each ∙ sym (ap (λ t. length t.seats) (wide_of c.args.lists.now c.if-lists.true))

pub returns : goal.returns
returns c =
    let each : c.len-2.result ≡ length c.args.lists.now.short.seats.items = search rules in
    each ∙ sym (ap (λ t. length t.seats) (short_of c.args.lists.now c.if-lists.false))
