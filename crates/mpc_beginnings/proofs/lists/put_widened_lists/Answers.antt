use Rattle.std.proofs.Common.{◌∙◌}
use Rattle.mpc_beginnings.proofs.lists.put_widened_lists.Goals as goal

pub returns-clause-same : goal.returns-clause-same
returns-clause-same c = λ i. record {
  seats = c.in_ok-put.ensures i;
  nonbasic = c.in_ok-put-2.ensures i;
  numbers = (c.in_ok-put_widened.ensures ∙ c.deref.ensures.value) i;
  firsts = (c.in_ok-put_widened-2.ensures ∙ c.deref-2.ensures.value) i;
  seconds = (c.in_ok-put_widened-3.ensures ∙ c.deref-3.ensures.value) i;
}
