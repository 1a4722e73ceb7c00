use Rattle.std.proofs.Common.{◌<◌, length, sym, ◌∙◌, subst}
use Rattle.mpc_whole.specs.Lists.{Listed}
use Rattle.mpc_beginnings.proofs.Listed.{wide_of, short_of, wide_weight, short_weight}
use Rattle.mpc_beginnings.proofs.lists.put_wide_copies.Goals as goal

pub returns-then-other-clause-same : goal.returns-then-other-clause-same
returns-then-other-clause-same c = c.in_ok-put_wide_lists.ensures.same ∙ sym (wide_of c.args.other.now c.if-other.true)

pub returns-then-other-clause-weights : goal.returns-then-other-clause-weights
returns-then-other-clause-weights c = λ j h. c.in_ok-put_wide_lists.ensures.weights j ∙ sym (wide_weight c.args.other.now c.args.product j c.if-other.true)

pub returns-clause-same : goal.returns-clause-same
returns-clause-same c = c.in_ok-put_widened_lists.ensures.same ∙ sym (short_of c.args.other.now c.if-other.false)

pub returns-clause-weights : goal.returns-clause-weights
returns-clause-weights c = λ j h.
    c.in_ok-put_widened_lists.ensures.weights j (subst (λ (t : Listed). j < length t.firsts) (short_of c.args.other.now c.if-other.false) h)
    ∙ sym (short_weight c.args.other.now c.args.product j c.if-other.false)
