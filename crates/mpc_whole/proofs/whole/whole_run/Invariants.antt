use Rattle.mpc_whole.specs.Lists.{AreListsOf, of_short}
use Rattle.mpc_whole.specs.Held.{AreHeld, AreUnderway}
use Rattle.mpc_whole.proofs.whole.whole_run.Given as goal

abbrev pub invariant-steps : goal.invariant-steps
invariant-steps l = record {
  lists : AreListsOf l.system l.place.own (of_short l.lists);
  held : AreHeld l.system l.numbers.scales.now l.numbers.a.now l.most l.place.den (of_short l.lists);
  underway : AreUnderway l.system l.numbers.scales.now (of_short l.lists) l.place;
}
