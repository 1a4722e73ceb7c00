use Rattle.std.proofs.Common.{◌≡◌, length}
use Rattle.mpc_linear.specs.Entries.{zero_matrix}
use Rattle.mpc_law_lines.specs.FormLists.{matrix_with}
use Rattle.mpc_law_lines.proofs.FormLemmas.{mixed}
use Rattle.mpc_law_lines.proofs.forms.matrix_of.Given as goal

abbrev pub invariant-loop-place : goal.invariant-loop-place
invariant-loop-place l = l.matrix ≡ matrix_with (mixed l.place l.forms (zero_matrix (length l.forms) l.columns).rows) l.columns
