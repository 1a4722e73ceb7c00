use Rattle.std.proofs.Common.{◌≡◌, ltb, List, length}
use Rattle.mpc_plant.specs.declared.lists.PlantRow.{PlantRow}
use Rattle.mpc_grammar.specs.Reading.{ReadsItems, one_line}
use Rattle.mpc_grammar.specs.PlantGrammar.{plain_rule, IsRow}
use Rattle.mpc_plant_lines.proofs.limit_lines.read_row_lines.Given as goal

abbrev pub invariant-loop : goal.invariant-loop
invariant-loop l = record {
  so_far : ReadsItems PlantRow (λ items. one_line (plain_rule (IsRow l.name l.states l.inputs))) (λ (items : List PlantRow). ltb (length items) l.count) l.initial.lines l.rows l.lines;
  so_many : length l.rows ≡ l.counter;
}
