use Rattle.std.proofs.Common.{◌+◌, codes, ◌≡◌, ltb, List, length}
use Rattle.mpc_exact.specs.Rational.{ℚ}
use Rattle.mpc_grammar.specs.Reading.{ReadsItems, one_line}
use Rattle.mpc_grammar.specs.PlantGrammar.{plain_rule, AreNumbers, StatesNew}
use Rattle.mpc_law_lines.specs.FormLists.{HasLinesOf}
use Rattle.mpc_law_lines.proofs.named_laws.read_forms.Given as goal

abbrev pub invariant-loop : goal.invariant-loop
invariant-loop l = record {
  so_far : ReadsItems (List ℚ) (λ (before : List (List ℚ)). one_line (plain_rule (StatesNew before (AreNumbers (codes "form") (l.plant.n + 1))))) (λ (before : List (List ℚ)). ltb (length before) l.count) l.initial.lines l.forms l.lines;
  so_many : length l.forms ≡ l.counter;
  known : HasLinesOf l.known l.forms;
}
