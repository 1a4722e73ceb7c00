use Rattle.std.proofs.Common.{List, take, ◌≡◌, length}
use Rattle.mpc_exact.specs.Rational.{ℚ}
use Rattle.mpc_writing.specs.Names.{AreNames}
use Rattle.mpc_writing.specs.FormNames.{AreForms, AreNumbered}
use Rattle.mpc_writing.proofs.law_lines.write_numbers.Given as goal

abbrev pub invariant-loop-i : goal.invariant-loop-i
invariant-loop-i l = record {
  numbered : (forms : List (List ℚ)) → AreForms (AreNames l.initial.names) forms → AreNumbered forms (take l.i l.matrix.rows) l.initial.out.items l.out.items (AreNames l.names);
  kept : take (length l.fn.out.items) l.out.items ≡ l.fn.out.items;
  names_kept : take (length l.fn.names.text.items) l.names.text.items ≡ l.fn.names.text.items;
}
