use Rattle.mpc_beginnings.proofs.lists.put_wide_lists.Goals as goal

pub returns-clause-same : goal.returns-clause-same
returns-clause-same c = λ i. record {
  seats = c.in_ok-put.ensures i;
  nonbasic = c.in_ok-put-2.ensures i;
  numbers = c.in_ok-put-3.ensures i;
  firsts = c.in_ok-put-4.ensures i;
  seconds = c.in_ok-put-5.ensures i;
}
