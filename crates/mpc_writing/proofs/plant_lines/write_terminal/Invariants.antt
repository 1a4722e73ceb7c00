use Rattle.std.proofs.Common.{codes, ◌≡◌, ◌++◌, take, map, length}
use Rattle.std.specs.Prelude.{All}
use Rattle.mpc_grammar.specs.Lines.{row_line}
use Rattle.mpc_writing.specs.Writing.{text_of_lines}
use Rattle.mpc_grammar.specs.WrittenFits.{RowFits}
use Rattle.mpc_writing.proofs.plant_lines.write_terminal.Given as goal

abbrev pub invariant-loop-i : goal.invariant-loop-i
invariant-loop-i l = record {
  text : l.out.items ≡ l.initial.out.items ++ text_of_lines (map (row_line (codes "last")) (take l.i l.rows));
  fits : All RowFits (take l.i l.rows);
  kept : take (length l.fn.out.items) l.out.items ≡ l.fn.out.items;
}
