use Rattle.std.proofs.Common.{◌≡◌, nat_lt, length}
use Rattle.mpc_linear.specs.declared.integers.RowInt.{RowInt}
use Rattle.mpc_grammar.specs.Reading.{one_line, ReadsItems}
use Rattle.mpc_grammar.specs.TreeGrammar.{plane_rule}
use Rattle.mpc_law_lines.specs.PlaneReading.{AreLinesOf}
use Rattle.mpc_law_lines.proofs.named_trees.read_plane_rows.Given as goal

abbrev pub invariant-loop-i : goal.invariant-loop-i
invariant-loop-i l =
    record {
      so_many : length l.planes ≡ l._i;
      lines_are : AreLinesOf l.before l.planes;
      reads : ReadsItems RowInt (λ rows. one_line (plane_rule l.plant rows)) (λ rows. nat_lt (length rows) l.count) l.fn.lines l.planes l.lines;
    }
