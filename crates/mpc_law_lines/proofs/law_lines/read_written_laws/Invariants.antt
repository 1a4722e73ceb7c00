use Rattle.std.proofs.Common.{◌≡◌, ltb, List, length}
use Rattle.mpc_rows.specs.declared.laws.Law.{Law}
use Rattle.mpc_grammar.specs.Reading.{ReadsItems}
use Rattle.mpc_grammar.specs.LawGrammar.{written_law}
use Rattle.mpc_law_lines.proofs.law_lines.read_written_laws.Given as goal

abbrev pub invariant-loop : goal.invariant-loop
invariant-loop l = record {
  so_far : ReadsItems Law (λ (before : List Law). written_law l.plant) (λ (before : List Law). ltb (length before) l.count) l.initial.lines l.laws l.lines;
  so_many : length l.laws ≡ l.counter;
}
