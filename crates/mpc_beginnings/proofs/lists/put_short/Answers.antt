use Rattle.mpc_beginnings.proofs.lists.put_short.Goals as goal

pub returns : goal.returns
returns c = λ i. record {
  seats = c.in_ok-put.ensures i;
  nonbasic = c.in_ok-put-2.ensures i;
  numbers = c.in_ok-put-3.ensures i;
  firsts = c.in_ok-put-4.ensures i;
  seconds = c.in_ok-put-5.ensures i;
}
