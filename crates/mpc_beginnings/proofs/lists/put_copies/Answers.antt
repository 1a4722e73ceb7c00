use Rattle.std.proofs.Common.{sym, ap, subst, ◌∙◌, ◌^◌, cond, ℤ, List}
use Rattle.std.proofs.lemmas.Bool.{both_ways}
use Rattle.mpc_scaled.specs.Scaled.{IsSmall}
use Rattle.mpc_whole.specs.Lists.{of_short, of_wide, weights_of}
use Rattle.mpc_beginnings.proofs.Listed.{wide_of, short_of, wide_weight, short_weight}
use Rattle.mpc_beginnings.proofs.lists.put_copies.Goals as goal

pub returns-then-other-clause-same : goal.returns-then-other-clause-same
returns-then-other-clause-same c =
    ap (λ b. cond b (of_wide c.put_wide_lists.new.lists) (of_short c.args.lists.now.short)) c.if-other.true ∙ c.in_ok-put_wide_lists.ensures.same ∙ sym (wide_of c.args.other.now c.if-other.true)

pub returns-then-other-clause-small : goal.returns-then-other-clause-small
returns-then-other-clause-small c = λ h. record {
  first = λ e. absurd (both_ways c.args.other.now.is_wide e c.if-other.true);
  second = λ e. absurd (both_ways c.args.other.now.is_wide e c.if-other.true);
}

pub returns-clause-same : goal.returns-clause-same
returns-clause-same c =
    ap (λ b. cond b (of_wide c.args.lists.now.wide) (of_short c.put_short.new.lists)) c.if-other.false ∙ c.in_ok-put_short.ensures ∙ sym (short_of c.args.other.now c.if-other.false)

pub returns-clause-small : goal.returns-clause-small
returns-clause-small c = λ h. record {
  first = λ e. subst (λ (t : List ℤ). IsSmall (2 ^ 62) t) (sym (ap (λ t. t.firsts) c.in_ok-put_short.ensures)) (h.first e);
  second = λ e. subst (λ (t : List ℤ). IsSmall (2 ^ 62) t) (sym (ap (λ t. t.seconds) c.in_ok-put_short.ensures)) (h.second e);
}

pub returns-then-other-clause-weights : goal.returns-then-other-clause-weights
returns-then-other-clause-weights c = λ product j.
    ap (λ b. cond b (weights_of c.put_wide_lists.new.lists j) product) c.if-other.true ∙ c.in_ok-put_wide_lists.ensures.weights j ∙ sym (wide_weight c.args.other.now product j c.if-other.true)

pub returns-clause-weights : goal.returns-clause-weights
returns-clause-weights c = λ product j.
    ap (λ b. cond b (weights_of c.args.lists.now.wide j) product) c.if-other.false ∙ sym (short_weight c.args.other.now product j c.if-other.false)
