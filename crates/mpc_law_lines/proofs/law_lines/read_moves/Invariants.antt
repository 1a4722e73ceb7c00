use Rattle.std.proofs.Common.{◌≡◌, ltb, List, length}
use Rattle.mpc_exact.specs.Rational.{ℚ}
use Rattle.mpc_grammar.specs.Reading.{ReadsItems, one_line}
use Rattle.mpc_grammar.specs.LawGrammar.{unknowns, move_rule}
use Rattle.mpc_law_lines.proofs.law_lines.read_moves.Given as goal

abbrev pub invariant-loop-index : goal.invariant-loop-index
invariant-loop-index l = record {
  so_far : ReadsItems (List ℚ) (λ (before : List (List ℚ)). one_line (move_rule l.plant (length before))) (λ (before : List (List ℚ)). ltb (length before) (unknowns l.plant)) l.initial.lines l.forms l.lines;
  so_many : length l.forms ≡ l.index;
}
