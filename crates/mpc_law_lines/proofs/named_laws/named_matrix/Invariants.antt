use Rattle.std.proofs.Common.{◌≡◌, length, map}
use Rattle.mpc_linear.specs.Entries.{zero_matrix}
use Rattle.mpc_grammar.specs.LawGrammar.{form_named}
use Rattle.mpc_law_lines.specs.FormLists.{matrix_with}
use Rattle.mpc_law_lines.proofs.FormLemmas.{mixed}
use Rattle.mpc_law_lines.proofs.named_laws.named_matrix.Given as goal

abbrev pub invariant-loop-i : goal.invariant-loop-i
invariant-loop-i l = l.matrix ≡ matrix_with (mixed l.i (map (form_named l.forms) l.numbers) (zero_matrix (length (map (form_named l.forms) l.numbers)) l.columns).rows) l.columns
