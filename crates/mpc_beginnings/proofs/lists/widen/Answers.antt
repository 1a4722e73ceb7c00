use Rattle.std.proofs.Common.{◌<◌, length, sym, ◌∙◌, subst}
use Rattle.mpc_whole.specs.Lists.{Listed}
use Rattle.mpc_beginnings.proofs.Listed.{wide_of, short_of, wide_weight, short_weight}
use Rattle.mpc_beginnings.proofs.lists.widen.Goals as goal

pub returns-then-lists-clause-same : goal.returns-then-lists-clause-same
returns-then-lists-clause-same c = sym (wide_of c.args.lists.now c.if-lists.true)

pub returns-then-lists-clause-weights : goal.returns-then-lists-clause-weights
returns-then-lists-clause-weights c = λ j h. sym (wide_weight c.args.lists.now c.args.product j c.if-lists.true)

pub returns-clause-same : goal.returns-clause-same
returns-clause-same c = c.in_ok-put_widened_lists.ensures.same ∙ sym (short_of c.args.lists.now c.if-lists.false)

pub returns-clause-weights : goal.returns-clause-weights
returns-clause-weights c = λ j h.
    c.in_ok-put_widened_lists.ensures.weights j (subst (λ (t : Listed). j < length t.firsts) (short_of c.args.lists.now c.if-lists.false) h)
    ∙ sym (short_weight c.args.lists.now c.args.product j c.if-lists.false)
