use Rattle.std.proofs.Common.{◌≡◌, ◌++◌, take, map, length}
use Rattle.std.specs.Prelude.{All}
use Rattle.std.specs.List.{flat_map}
use Rattle.mpc_frac.specs.Text.{text_of as fraction_text}
use Rattle.mpc_words.specs.Words.{behind_blanks}
use Rattle.mpc_grammar.specs.PlantGrammar.{AllFit}
use Rattle.mpc_writing.proofs.plant_lines.write_entries.Given as goal

abbrev pub invariant-loop-i : goal.invariant-loop-i
invariant-loop-i l = record {
  text : l.out.items ≡ l.initial.out.items ++ behind_blanks (map fraction_text (flat_map (λ row. row) (take l.i l.matrix.rows)));
  fits : All AllFit (take l.i l.matrix.rows);
  kept : take (length l.fn.out.items) l.out.items ≡ l.fn.out.items;
}
