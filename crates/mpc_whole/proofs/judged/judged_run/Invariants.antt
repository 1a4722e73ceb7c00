use Rattle.mpc_rows.specs.Run.{count}
use Rattle.mpc_whole.specs.Lists.{AreListsOf, of_wide, weights_of}
use Rattle.mpc_whole.specs.Judged.{IsMildlyUnderway}
use Rattle.mpc_whole.proofs.judged.judged_run.Given as goal

abbrev pub invariant-steps : goal.invariant-steps
invariant-steps l = record {
  lists : AreListsOf l.system l.place.own (of_wide l.lists);
  underway : IsMildlyUnderway l.system (count l.system) l.lists.seats.items l.numbers.scales.now l.place.den l.lists.numbers.items l.lists.firsts.items l.lists.seconds.items l.place.greatest l.place.greatest_den (weights_of l.lists) l.place.product l.place.first;
}
