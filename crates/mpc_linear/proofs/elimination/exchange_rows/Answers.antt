use Rattle.std.proofs.Common.{◌+◌, ◌∙◌, sym, subst}
use Rattle.mpc_linear.specs.Stored.{stored}
use Rattle.mpc_linear.proofs.Steps.{Exchanging, exchanging_more}
use Rattle.mpc_linear.proofs.elimination.exchange_rows.Goals as goal

pub loop-later-preserved : goal.loop-later-preserved
loop-later-preserved c =
    subst (λ xs. Exchanging c.args.rows c.args.width c.args.column c.args.row (c.loop-later.later + 1) (stored c.args.width c.args.table.now) (stored c.args.width xs)) (sym c.swap.ensures.after)
    (exchanging_more c.args.rows c.args.width c.args.column c.args.row c.loop-later.later (stored c.args.width c.args.table.now) c.loop-later.table (c.loop-later.auto.table ∙ c.requires.size) c.requires.c_below c.requires.p_below c.loop-later-test.true c.loop-later.invariant)
