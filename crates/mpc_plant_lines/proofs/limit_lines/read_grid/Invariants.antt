use Rattle.std.proofs.Common.{◌≡◌, ltb, List, length}
use Rattle.mpc_plant.specs.declared.lists.Coordinate.{Coordinate}
use Rattle.mpc_grammar.specs.Reading.{ReadsItems, one_line}
use Rattle.mpc_grammar.specs.PlantGrammar.{plain_rule, IsAxis}
use Rattle.mpc_plant_lines.proofs.limit_lines.read_grid.Given as goal

abbrev pub invariant-loop : goal.invariant-loop
invariant-loop l = record {
  so_far : ReadsItems Coordinate (λ items. one_line (plain_rule IsAxis)) (λ (items : List Coordinate). ltb (length items) l.sizes.states) l.initial.lines l.axes l.lines;
  so_many : length l.axes ≡ l.counter;
}
