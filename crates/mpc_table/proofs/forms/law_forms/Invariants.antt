use Rattle.std.proofs.Common.{take}
use Rattle.mpc_table.proofs.SharedFormLemmas.{AreLawsTo}
use Rattle.mpc_table.proofs.forms.law_forms.Given as goal

abbrev pub invariant-loop-j : goal.invariant-loop-j
invariant-loop-j l = AreLawsTo l.counts l.plant.p (take l.j l.laws) l.forms.items l.lines l.all.items
