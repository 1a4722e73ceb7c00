use Rattle.std.proofs.Common.{length}
use Rattle.mpc_sections.proofs.StepLemmas.{HasBegun}
use Rattle.mpc_sections.proofs.beginnings.begin_all.Given as goal

abbrev pub invariant-sections : goal.invariant-sections
invariant-sections l = HasBegun l.input l.rest l.begun.items l.programs.items

abbrev pub decreases-sections : goal.decreases-sections
decreases-sections l = length l.rest
