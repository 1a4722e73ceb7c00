use Rattle.std.proofs.Common.{take}
use Rattle.mpc_table.specs.SharedForms.{AreFormPlaces}
use Rattle.mpc_table.proofs.forms.forms_of.Given as goal

abbrev pub invariant-loop-i : goal.invariant-loop-i
invariant-loop-i l = AreFormPlaces l.counts (take l.i l.law.moves.rows) l.i l.initial.forms.items l.forms.items l.lines l.places
