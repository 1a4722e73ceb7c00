use Rattle.std.proofs.Common.{◌≡◌, ◌++◌, take, map, length}
use Rattle.std.specs.Prelude.{All}
use Rattle.mpc_grammar.specs.Lines.{grid_line}
use Rattle.mpc_writing.specs.Writing.{text_of_lines}
use Rattle.mpc_grammar.specs.WrittenFits.{AxisFits}
use Rattle.mpc_writing.proofs.plant_lines.write_grid.Given as goal

abbrev pub invariant-loop-i : goal.invariant-loop-i
invariant-loop-i l = record {
  text : l.out.items ≡ l.initial.out.items ++ text_of_lines (map grid_line (take l.i l.grid));
  fits : All AxisFits (take l.i l.grid);
  kept : take (length l.fn.out.items) l.out.items ≡ l.fn.out.items;
}
