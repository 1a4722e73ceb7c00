use Rattle.std.proofs.Common.{◌∙◌, List, ℕ, sym, subst}
use Rattle.mpc_sets.specs.SetOrder.{pointwise_true}
use Rattle.mpc_rows.specs.Verdicts.{IsRight}
use Rattle.mpc_workers.proofs.Foreseen.{first_right, stay_popped}
use Rattle.mpc_workers.proofs.ahead.recall.Goals as goal

pub returns-then-eq-clause-known : goal.returns-then-eq-clause-known
returns-then-eq-clause-known c = stay_popped c.args.known.now.items c.forget_before.new.known.items _ c.forget_before.ensures c.pop_front.ensures.rest

pub returns-then-eq-clause-right : goal.returns-then-eq-clause-right
returns-then-eq-clause-right c = λ qp a.
    subst (λ (s : List ℕ). IsRight qp s c.in_ok-judged.field-0.judged.verdict) (sym c.set.ensures ∙ pointwise_true c.set.result c.args.set (sym c.eq.ensures ∙ c.if-eq.true))
    (first_right qp c.forget_before.new.known.items c.pop_front.new.self.items c.in_ok-judged.field-0 c.in_ok-judged.ensures.items (c.forget_before.ensures qp a))

pub returns-clause-known : goal.returns-clause-known
returns-clause-known c = stay_popped c.args.known.now.items c.forget_before.new.known.items _ c.forget_before.ensures c.pop_front.ensures.rest
