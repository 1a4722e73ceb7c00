use Rattle.std.proofs.Common.{◌≡◌, [], get_or}
use Rattle.mpc_law_lines.specs.FormLists.{with_filled_row}
use Rattle.mpc_law_lines.proofs.FormLemmas.{mixed}
use Rattle.mpc_law_lines.proofs.forms.fill_row.Given as goal

abbrev pub invariant-loop-column : goal.invariant-loop-column
invariant-loop-column l = l.matrix ≡ with_filled_row l.initial.matrix l.row (mixed l.column l.form (get_or l.initial.matrix.rows l.row []))
