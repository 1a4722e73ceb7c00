use Rattle.std.proofs.Common.{[], take, ◌≡◌, length}
use Rattle.mpc_writing.specs.FormNames.{AreForms, AreLawsNumbered}
use Rattle.mpc_writing.specs.Names.{AreNames}
use Rattle.mpc_writing.proofs.law_lines.write_laws.Given as goal

abbrev pub invariant-loop-j : goal.invariant-loop-j
invariant-loop-j l = record {
  numbered : AreForms (AreNames l.initial.names) [] → AreLawsNumbered (take l.j l.laws) l.initial.out.items l.out.items (AreNames l.names);
  kept : take (length l.fn.out.items) l.out.items ≡ l.fn.out.items;
  names_kept : take (length l.fn.names.text.items) l.names.text.items ≡ l.fn.names.text.items;
}
