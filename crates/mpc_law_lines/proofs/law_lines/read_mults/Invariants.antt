use Rattle.std.proofs.Common.{◌+◌, ◌≡◌, ltb, List, length, codes}
use Rattle.mpc_exact.specs.Rational.{ℚ}
use Rattle.mpc_grammar.specs.Reading.{ReadsItems, one_line}
use Rattle.mpc_grammar.specs.PlantGrammar.{plain_rule, AreNumbers}
use Rattle.mpc_law_lines.proofs.law_lines.read_mults.Given as goal

abbrev pub invariant-loop : goal.invariant-loop
invariant-loop l = record {
  so_far : ReadsItems (List ℚ) (λ (before : List (List ℚ)). one_line (plain_rule (AreNumbers (codes "mult") (l.plant.n + 1)))) (λ (before : List (List ℚ)). ltb (length before) l.members) l.initial.lines l.forms l.lines;
  so_many : length l.forms ≡ l.counter;
}
