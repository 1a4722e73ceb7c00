use Rattle.std.proofs.Common.{◌≡◌, ℕ, nat_lt, List, length}
use Rattle.mpc_exact.specs.Rational.{ℚ}
use Rattle.mpc_grammar.specs.Reading.{one_line, ReadsItems}
use Rattle.mpc_grammar.specs.PlantGrammar.{plain_rule}
use Rattle.mpc_grammar.specs.TreeGrammar.{IsCertLine}
use Rattle.mpc_law_lines.proofs.tree_lines.read_certs.Given as goal

abbrev pub invariant-loop-i : goal.invariant-loop-i
invariant-loop-i l =
    record {
      so_many : length l.read ≡ l._i;
      reads : ReadsItems (List (ℕ × ℚ)) (λ items. one_line (plain_rule (IsCertLine l.rows))) (λ items. nat_lt (length items) l.count) l.fn.lines l.read l.lines;
    }
